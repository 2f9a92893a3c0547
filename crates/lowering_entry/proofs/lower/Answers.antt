-- What the core gave over words of its own is the answer over the records. Assumes nothing.
use native.Mathlib.Omega.{arith}
use Rattle.std.proofs.lemmas.Result.{err_from_is_err_and}
use Rattle.lowering_entry.proofs.SameAnswer.{same_answer, same_refused, sum_fits}
use Rattle.lowering_entry.proofs.lower.Goals as goal

pub returns-in_err-after-clause-is : goal.returns-in_err-after-clause-is
returns-in_err-after-clause-is c =
    let a = c.args in
    let p = err_from_is_err_and c.from_residual.result c.from_residual.ensures.1 in
    rw (p.1, p.2)
    (same_refused a.lent.now.edges.now a.state c.used_of-used.result _ _
    (rw c.with_edges.ensures at (same_answer a.lent.now a.state a.call c.used_of-used.result _ _ c.used_of-used.ensures c.with_edges.ensures c.in_err-after.ensures)))

pub overflow_sub-added : goal.overflow_sub-added
overflow_sub-added c =
    let a = c.args in
    (same_answer a.lent.now a.state a.call c.used_of-used.result _ _ c.used_of-used.ensures c.with_edges.ensures c.in_ok-after.ensures).more

pub append_edges-requires : goal.append_edges-requires
append_edges-requires c =
    let a = c.args in
    (same_answer a.lent.now a.state a.call c.used_of-used.result _ _ c.used_of-used.ensures c.with_edges.ensures c.in_ok-after.ensures).fits

pub overflow_add-count : goal.overflow_add-count
overflow_add-count c =
    let a = c.args in
    let w = same_answer a.lent.now a.state a.call c.used_of-used.result _ _ c.used_of-used.ensures c.with_edges.ensures c.in_ok-after.ensures in
    let h = sum_fits _ _ _ _ w.fits (omega arith) (omega arith) in
    omega arith

pub returns-clause-is : goal.returns-clause-is
returns-clause-is c =
    let a = c.args in
    rw (c.with_edges-2.ensures, c.append_edges.ensures)
    (same_answer a.lent.now a.state a.call c.used_of-used.result _ _ c.used_of-used.ensures c.with_edges.ensures c.in_ok-after.ensures).right
