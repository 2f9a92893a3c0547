-- A list of lines read from the first to the last: each line's meaning from those of the lines before it. A meaning is of any type M,
-- and `none` is that of an operand that is no earlier line.
use Rattle.std.specs.Prelude.{ℕ, List, [], ◌∷◌, ◌++◌, length, get_or}
use Rattle.btor2.specs.Op.{Op, map_op}

module _ (M : Type 0) (none : M) (mean : ℕ → Op M → M) where
  -- `before` are the meanings of the lines before; `mean p` gives that of the line at place p
  unfoldable pub walk : List M → List (Op ℕ) → List M
  walk before [] = before
  walk before (o ∷ os) = walk (before ++ (mean (length before) (map_op (λ p. get_or before p none) o) ∷ [])) os
