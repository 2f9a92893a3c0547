-- The kinds of instruction, by name.
use Rattle.std.specs.Prelude.{ℕ, suc, Bool, true, false, cond, ◌&&◌, List, [], ◌∷◌, eqb}
use Rattle.riscv.specs.Kind.{kind_names}

unfoldable pub same : List ℕ → List ℕ → Bool
same [] [] = true
same [] (y ∷ ys) = false
same (x ∷ xs) [] = false
same (x ∷ xs) (y ∷ ys) = eqb x y && same xs ys

-- the place of the first entry that is the name, or the length of the table
unfoldable pub place_of : List ℕ → List (List ℕ) → ℕ
place_of name [] = 0
place_of name (x ∷ xs) = cond (same name x) 0 (suc (place_of name xs))

-- a kind's code is its number, and that of no kind is how many kinds there are
abbrev pub kind_code : List ℕ → ℕ
kind_code name = place_of name kind_names
