-- What is left once every test has passed. Assumes nothing.
use mathlib.Core.Path.{sym, ◌∙◌}
use native.Mathlib.Omega.{arith}
use borrow.Author.Tests.{not-true}
use Rattle.list_check.proofs.Plain.{one_to_three, unnamed, plain, plain_const}
use Rattle.list_check.proofs.plainly_formed.Goals as goal

pub returns-then-kind-eq-CONST : goal.returns-then-kind-eq-CONST
returns-then-kind-eq-CONST c e = (unnamed _ (omega arith) c.if-kind-eq-STATE.false, λ host ours. plain_const host ours _ _ c.if-kind-eq-CONST.true (one_to_three _ (omega arith) (omega arith)))

pub returns-then-kind-sort-ne-EXT_FROM_MEMORY : goal.returns-then-kind-sort-ne-EXT_FROM_MEMORY
returns-then-kind-sort-ne-EXT_FROM_MEMORY c e = (
  unnamed _ (omega arith) c.if-kind-eq-STATE.false,
  λ host ours. plain host ours _ _ (omega arith) (omega arith) c.if-kind-eq-STATE.false (one_to_three _ (omega arith) (omega arith)) (λ k m. c.if-kind-sort-ne-EXT_FROM_MEMORY.true (rw (k, m))) (sym c.three_out.ensures ∙ not-true _ e),
)
