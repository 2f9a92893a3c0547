-- What the records give: by the first of them, and by those after it; nothing where there is no whole one. Assumes nothing.
use Rattle.std.proofs.Common.{◌≡◌, ℕ, suc, ◌/◌, ◌<◌, cond, ◌&&◌, eqb, List, [], ◌∷◌, ◌++◌, length, get_or, arith}
use Rattle.btor2_list.specs.Records.{records_in, first_given}
use Rattle.evaluation.specs.Given.{given_value, given_cell}

pub value_next : (x ws : List ℕ) (p : ℕ) → length x ≡ 2 → given_value (x ++ ws) p ≡ cond (eqb (get_or x 0 0) p) (get_or x 1 0) (given_value ws p)
unfolding records_in first_given
value_next [] ws p e = absurd (omega arith)
value_next (a ∷ []) ws p e = absurd (omega arith)
value_next (a ∷ b ∷ []) ws p e = let more : length (a ∷ b ∷ ws) / 2 ≡ suc (length ws / 2) = omega arith in rw more
value_next (a ∷ b ∷ c ∷ x) ws p e = absurd (omega arith)

pub value_none : (ws : List ℕ) (p : ℕ) → length ws < 2 → 0 ≡ given_value ws p
unfolding records_in first_given
value_none ws p h = let none : length ws / 2 ≡ 0 = omega arith in rw none

pub cell_next : (x ws : List ℕ) (p a : ℕ) → length x ≡ 3
    → given_cell (x ++ ws) p a ≡ cond (eqb (get_or x 0 0) p && eqb (get_or x 1 0) a) (get_or x 2 0) (given_cell ws p a)
unfolding records_in first_given
cell_next [] ws p a e = absurd (omega arith)
cell_next (i ∷ []) ws p a e = absurd (omega arith)
cell_next (i ∷ j ∷ []) ws p a e = absurd (omega arith)
cell_next (i ∷ j ∷ k ∷ []) ws p a e = let more : length (i ∷ j ∷ k ∷ ws) / 3 ≡ suc (length ws / 3) = omega arith in rw more
cell_next (i ∷ j ∷ k ∷ l ∷ x) ws p a e = absurd (omega arith)

pub cell_none : (ws : List ℕ) (p a : ℕ) → length ws < 3 → 0 ≡ given_cell ws p a
unfolding records_in first_given
cell_none ws p a h = let none : length ws / 3 ≡ 0 = omega arith in rw none
