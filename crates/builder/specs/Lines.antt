-- A program read without a state: its lines.
use Rattle.std.specs.Prelude.{ℕ, ◌+◌, List, [], ◌∷◌}
use Rattle.btor2.specs.Op.{Op}
use Rattle.builder.specs.Prog.{Prog, done, line}

-- the k-th line has the place `at k`; from the k-th line on
unfoldable pub lines_of : {A X : Type 0} → (ℕ → A) → ℕ → Prog A X → List (Op A)
lines_of at k (done x) = []
lines_of at k (line o f) = o ∷ lines_of at (k + 1) (f (at k))

-- the places of lines after n others
abbrev pub place_after : ℕ → ℕ → ℕ
place_after n k = n + k
