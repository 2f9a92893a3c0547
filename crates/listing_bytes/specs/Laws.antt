-- What is proved of the listing as a whole.
use Rattle.std.specs.Prelude.{ℕ, ◌+◌, ◌-◌, ◌^◌, ◌<◌, ◌≤◌, ◌≡◌, List, ◌++◌, ltb, length, take}
use Rattle.listing_start.specs.Start.{concat}
use Rattle.lowering.specs.Lowering.{Lent, room_in}
use Rattle.state.specs.declared.State.{State}
use Rattle.lowering_refusals.specs.Refusal.{needs, room_out}
use Rattle.text.specs.Put.{Put}
use Rattle.riscv.specs.declared.Instruction.{Instruction}
use Rattle.listing_bytes.specs.Step.{emptied, step}
use Rattle.listing_bytes.specs.Storage.{listing_lines, out_room}
use Rattle.listing_bytes.specs.Listing.{reached, listing}
use Rattle.listing_bytes.specs.Pieces.{Progress, and_then, take_bytes, take_pieces, input_ended, start}

-- what is read in two pieces is as read in one
abbrev pub TwoPieces : Type 0
TwoPieces = (a b : List ℕ) (p : Progress) → take_bytes (a ++ b) p ≡ and_then (take_bytes a p) (take_bytes b)

-- however an input is cut into pieces, what is written is its listing. Lines and their bytes are counted in 64 bits, and no input is so long.
abbrev pub AnyPieces : Type 0
AnyPieces = (pieces : List (List ℕ)) → length (concat pieces) < 2 ^ 64 - 1 → (and_then (take_pieces pieces start) input_ended).text ≡ listing (concat pieces)

-- the text of every line has room, whatever the state
abbrev pub TextFits : Type 0
TextFits = (number : ℕ) (line : List ℕ) (l : Lent) (st : State) → length (step number line l st).text ≤ out_room

-- so the bytes that an output of that room holds, as many as the length that is told, are the text
abbrev pub TextWritten : Type 0
TextWritten = (out text out' : List ℕ) (n : ℕ) → length out ≡ out_room → length text ≤ out_room → Put out 0 text out' n → take n out' ≡ text

-- "with room for their bads and names": refusal 8 comes from the lines alone, whatever came before
abbrev pub LinesDecide : Type 0
LinesDecide = (before : List (List ℕ)) (i : Instruction) (address : ℕ) → let st = emptied (reached before).state in
    room_out (room_in (reached before).lent) st.tally st.counts (needs i address) ≡ ltb listing_lines (st.tally.lines + (needs i address).lines)
