-- The listing, from the bytes that it reads to those that it writes (document 01, "The listing program has its own start").
use Rattle.std.specs.Prelude.{ℕ, ◌+◌, cond, List, [], ◌∷◌, ◌++◌, eqb}
use Rattle.listing_input.specs.Gather.{newline_byte}
use Rattle.listing_start.specs.Start.{start_state}
use Rattle.lowering.specs.Lowering.{Lent}
use Rattle.state.specs.declared.State.{State}
use Rattle.listing_bytes.specs.Step.{Step, step}
use Rattle.listing_bytes.specs.Storage.{start_lent}

-- ---- the lines of an input

-- "the last newline may be missing"; nothing follows the last newline
abbrev pub last_line : List ℕ → List (List ℕ)
last_line [] = []
last_line (b ∷ bs) = (b ∷ bs) ∷ []

-- the lines of what is left of an input, where these bytes of a line have been read
unfoldable pub lines_from : List ℕ → List ℕ → List (List ℕ)
lines_from line [] = last_line line
lines_from line (b ∷ bs) = cond (eqb b newline_byte) (line ∷ lines_from [] bs) (lines_from (line ++ (b ∷ [])) bs)

abbrev pub input_lines : List ℕ → List (List ℕ)
input_lines input = lines_from [] input

-- ---- one line after the other

-- lines from a number on: the state and what is lent after them all, and their texts one after the other
unfoldable pub steps : ℕ → List (List ℕ) → Lent → State → Step
steps number [] l st = record { state = st; lent = l; text = [] }
steps number (line ∷ lines) l st =
    let one = step number line l st in
    let rest = steps (number + 1) lines one.lent one.state in
    record { state = rest.state; lent = rest.lent; text = one.text ++ rest.text }

-- from the listing's start, "lines counted from 1"
unfoldable pub reached : List (List ℕ) → Step
reached lines = steps 1 lines start_lent start_state

-- what is written for an input
abbrev pub listing : List ℕ → List ℕ
listing input = (reached (input_lines input)).text
