-- Any list of calls, by the definitions that the code's `lower` and `join` equal. Document 01, "Start, storage, evaluation": "Demand 3 is one claim
-- about the whole list of calls, not one for each: any records, addresses, flags and room. List, areas, identifier count and roles pass on,
-- through a refused call as they were; edge, dispatch and bad lists may change in between."
use Rattle.std.specs.Prelude.{ℕ, Bool, cond, List, [], ◌∷◌, ◌++◌, eqb, length, take, drop}
use Rattle.btor2.specs.Op.{Op}
use Rattle.btor2_list.specs.Record.{words_for}
use Rattle.state.specs.declared.State.{State}
use Rattle.lowering.specs.declared.LowerCall.{LowerCall}
use Rattle.lowering.specs.Lowering.{Lent, lent, Answer, lowering}
use Rattle.meaning.specs.Lines.{operators}
use Rattle.join.specs.declared.JoinHeld.{JoinHeld}
use Rattle.join.specs.Refusal.{JoinInput, JoinLent, join_lent}
use Rattle.join.specs.Join.{JoinAnswer, joining}

-- what passes on: the words of the list, our name area, and the state, which has the counts and the roles
pub record Held : Type 0 where
  pub list : List ℕ
  pub names : List ℕ
  pub state : State

-- the lines of the list
abbrev pub lines_in : Held → List (Op ℕ)
lines_in h = operators h.list h.state.tally.lines

-- one lowering: the record, its address, the flag's place (one outside the list is an absent flag), and all that the host lends with it, of
-- any length
pub record Request : Type 0 where
  pub call : LowerCall
  -- the list and our name area, but for what is in use, which passes on
  pub list : List ℕ
  pub names : List ℕ
  -- "edge, dispatch and bad lists may change in between": whole lists, and how much of each is in use
  pub edges : List ℕ
  pub dispatches : List ℕ
  pub bads : List ℕ
  pub edge_count : ℕ
  pub dispatch_count : ℕ
  pub bad_count : ℕ

-- one join of edges (document 02, R-1: "The third demand's list of calls takes the joins in"): what it is given, and all that the host lends
-- with it, of any length; the sequentials may change in between too
pub record Join : Type 0 where
  pub given : JoinInput
  pub list : List ℕ
  pub names : List ℕ
  pub sequentials : List ℕ
  pub sequential_count : ℕ

pub data Call : Type 0 where
  lower : Request → Call
  join : Join → Call

-- what is in use stands in front of the room that is lent, as far as that reaches
unfoldable pub in_front : List ℕ → List ℕ → List ℕ
in_front used room = take (length room) used ++ drop (length used) room

-- so it is with the list and our name area
abbrev pub list_for : Held → List ℕ → List ℕ
list_for h room = in_front (take (words_for h.state.tally.lines) h.list) room

abbrev pub names_for : Held → List ℕ → List ℕ
names_for h room = in_front (take h.state.counts.names h.names) room

-- what a call is lent
unfoldable pub lent_for : Held → Request → Lent
lent_for h c = lent (list_for h c.list) (names_for h c.names) c.edges c.dispatches c.bads

unfoldable pub state_for : Held → Request → State
state_for h c = record {
  tally = h.state.tally;
  counts = record { names = h.state.counts.names; edges = c.edge_count; dispatches = c.dispatch_count; bads = c.bad_count };
  roles = h.state.roles;
}

unfoldable pub answer_to : Held → Request → Answer
answer_to h c = lowering (lent_for h c) (state_for h c) c.call.instruction c.call.address c.call.flag

-- the code's refusal is none
unfoldable pub accepted : Held → Request → Bool
accepted h c = eqb (answer_to h c).lowered.refusal 0

-- a join is lent what is in use in the same way
unfoldable pub lent_join : Held → Join → JoinLent
lent_join h c = join_lent (list_for h c.list) (names_for h c.names) c.sequentials

unfoldable pub held_join : Held → Join → JoinHeld
held_join h c = record { state = h.state; sequentials = c.sequential_count }

unfoldable pub join_answer_to : Held → Join → JoinAnswer
join_answer_to h c = joining (lent_join h c) (held_join h c) c.given

unfoldable pub join_accepted : Held → Join → Bool
join_accepted h c = eqb (join_answer_to h c).refusal 0

-- what is held after a call; "through a refused call as they were"
unfoldable pub step : Held → Call → Held
step h (lower c) =
    let a = answer_to h c in
    cond (accepted h c) (record { list = a.lent.list; names = a.lent.names; state = a.lowered.state }) h
step h (join c) =
    let a = join_answer_to h c in
    cond (join_accepted h c) (record { list = a.lent.list; names = a.lent.names; state = a.held.state }) h

unfoldable pub run : Held → List Call → Held
run h [] = h
run h (c ∷ cs) = run (step h c) cs
