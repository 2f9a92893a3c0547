-- The check over the lines of the words is that of each record with the lookups from its place. Assumes nothing.
use Prim.Native.Nat.{ℕ, ◌≤◌}
use mathlib.Core.Path.{◌≡◌, ap, fun_ext}
use mathlib.Core.Bool.{Bool}
use mathlib.Core.List.{List}
use lib.ListN.{length}
use Rattle.btor2_list.specs.Record.{capacity}
use Rattle.btor2_list.specs.View.{view}
use Rattle.list_check.specs.Lines.{ops, some}
use Rattle.list_check.proofs.Formed.{said, op_at_lem, looked}
use Rattle.list_check.proofs.Some.{some_same}
use Rattle.list_check.specs.Broken.{op_broken, line_broken}
use Rattle.list_check.specs.OperandsOut.{record_broken}

pub by_records : (ws : List ℕ) (n : ℕ) → n ≤ capacity (length ws) → some n (line_broken (ops (view ws n))) ≡ some n (record_broken ws)
by_records ws n room =
    some_same n (line_broken (ops (view ws n))) (record_broken ws)
    (λ p h. rw (op_at_lem ws n p h) (ap (λ (out : ℕ → Bool). op_broken out (said ws p)) (fun_ext (looked ws n room p h))))
