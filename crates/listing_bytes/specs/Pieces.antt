-- An input that is read in pieces: what passes from one byte to the next, and what is written.
use Rattle.std.specs.Prelude.{ℕ, ◌+◌, ◌-◌, ◌%◌, ◌^◌, min, cond, List, [], ◌∷◌, ◌++◌, eqb, take, set, replicate}
use Rattle.listing_input.specs.Gather.{newline_byte}
use Rattle.listing_start.specs.Start.{start_state}
use Rattle.lowering.specs.Lowering.{Lent}
use Rattle.state.specs.declared.State.{State}
use Rattle.listing_bytes.specs.declared.Reading.{Reading}
use Rattle.listing_bytes.specs.Step.{step}
use Rattle.listing_bytes.specs.Storage.{start_lent, line_room}

-- what passes on: what is lent for the lowering, the bytes lent for the line that is being read, and how far the reading is
pub record Progress : Type 0 where
  pub lent : Lent
  pub line : List ℕ
  pub reading : Reading

abbrev pub progress : Lent → List ℕ → Reading → Progress
progress l line r = record { lent = l; line = line; reading = r }

abbrev pub reading : State → ℕ → ℕ → Reading
reading st number held = record { state = st; number = number; held = held }

-- what passes on, and what is written
pub record Told : Type 0 where
  pub progress : Progress
  pub text : List ℕ

abbrev pub told : Progress → List ℕ → Told
told p text = record { progress = p; text = text }

-- and then more, whose text follows
abbrev pub and_then : Told → (Progress → Told) → Told
and_then t more = let u = more t.progress in told u.progress (t.text ++ u.text)

-- a line has ended, and is the one of its number; numbers are of 64 bits
unfoldable pub line_ended : Progress → Told
line_ended p =
    let r = p.reading in
    let s = step r.number (take r.held p.line) p.lent r.state in
    told (progress s.lent p.line (reading s.state ((r.number + 1) % 2 ^ 64) 0)) s.text

-- one byte more of the line is held; where there is no room to keep it, it is counted alone
unfoldable pub byte_held : ℕ → Progress → Progress
byte_held b p =
    let r = p.reading in
    progress p.lent (set p.line r.held b) (reading r.state r.number (min (r.held + 1) (2 ^ 64 - 1)))

-- a newline ends a line, any other byte is of it
unfoldable pub take_byte : ℕ → Progress → Told
take_byte b p = cond (eqb b newline_byte) (line_ended p) (told (byte_held b p) [])

-- one byte after the other, and one piece after the other
unfoldable pub take_bytes : List ℕ → Progress → Told
take_bytes [] p = told p []
take_bytes (b ∷ bs) p = and_then (take_byte b p) (take_bytes bs)

unfoldable pub take_pieces : List (List ℕ) → Progress → Told
take_pieces [] p = told p []
take_pieces (piece ∷ pieces) p = and_then (take_bytes piece p) (take_pieces pieces)

-- the input has ended: "the last newline may be missing"
unfoldable pub input_ended : Progress → Told
input_ended p = cond (eqb p.reading.held 0) (told p []) (line_ended p)

-- nothing has been read
unfoldable pub start : Progress
start = progress start_lent (replicate line_room 0) (reading start_state 1 0)
