-- The listing's own start (document 01, "The listing program has its own start"), in words of any length that holds it: its lines, that the
-- start's check accepts it, and so what demand 3 says of any list of calls from it.
use Rattle.std.specs.Prelude.{ℕ, ◌≤◌, ◌≡◌, List, length, None}
use Rattle.btor2.specs.Value.{Env}
use Rattle.btor2_list.specs.Record.{words_for}
use Rattle.btor2_list.specs.View.{view}
use Rattle.state.specs.declared.room.Room.{Room}
use Rattle.lowering_laws.specs.Lines.{numbered}
use Rattle.start.specs.Start.{start_refusal}
use Rattle.listing_start.specs.Start.{host_area, first_nid, start_lines, start_ops, start_in, start_state}
use Rattle.demand.specs.Calls.{Held, Call}
use Rattle.demand.specs.Demand3.{Records, NoneExcluded, ZeroRegister, Means}

-- its lines are the definition's, under the identifiers 20 to 58
abbrev pub StartLines : Type 0
StartLines = (words : List ℕ) → words_for start_lines ≤ length words → view (start_in words) start_lines ≡ numbered None first_nid start_ops

-- none of 9 to 13 applies, whatever the room, where it holds as many lines
abbrev pub StartAccepted : Type 0
StartAccepted = (words : List ℕ) (room : Room) → words_for start_lines ≤ length words → start_lines ≤ room.lines → start_refusal (start_in words) (length host_area) room start_state ≡ 0

abbrev pub listing_start : List ℕ → List ℕ → Held
listing_start words names = record { list = start_in words; names = names; state = start_state }

-- x0's node is 0, which demand 3 asks of the states
abbrev pub StartZero : Type 0
StartZero = (words names : List ℕ) (env : Env) → words_for start_lines ≤ length words → ZeroRegister env (listing_start words names)

abbrev pub StartMeans : Type 0
StartMeans = (words names : List ℕ) (calls : List Call) → words_for start_lines ≤ length words → Records calls → NoneExcluded (listing_start words names) calls
    → Means (listing_start words names) calls
