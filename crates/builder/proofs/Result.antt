-- What a program gives in the end, read without a state as its lines are. Assumes nothing.
use Rattle.std.proofs.Common.{ℕ, ◌+◌}
use Rattle.builder.specs.Prog.{Prog, done, line}

unfoldable pub result_of : {A X : Type 0} → (ℕ → A) → ℕ → Prog A X → X
result_of at k (done x) = x
result_of at k (line o f) = result_of at (k + 1) (f (at k))
