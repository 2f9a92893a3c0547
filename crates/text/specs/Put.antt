-- What a piece of text does to an output.
use Rattle.std.specs.Prelude.{ℕ, ◌+◌, ◌-◌, ◌^◌, min, ◌≡◌, List, length}
use Rattle.std.proofs.lemmas.List.Edits.{sets}

-- The text is stored from place `at` on, as far as the list goes, and the place after it is answered, capped at the largest number. A slice
-- is shorter than 2 ^ 63, so a capped place is past every slice, and nothing is stored there.
pub record Put (l : List ℕ) (at : ℕ) (text : List ℕ) (l' : List ℕ) (r : ℕ) : Type 0 where
  pub list : l' ≡ sets l at text
  pub next : r ≡ min (at + length text) (2 ^ 64 - 1)
