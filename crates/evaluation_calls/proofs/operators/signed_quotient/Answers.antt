use Rattle.evaluation_calls.proofs.Words.{neg_is, sdiv_nn, sdiv_np, sdiv_pn, sdiv_pp}
use Rattle.evaluation_calls.proofs.operators.signed_quotient.Goals as goal

pub returns-in-true-true : goal.returns-in-true-true
returns-in-true-true c =
    let a = c.args in
    cc (sdiv_nn a.x a.y c.in-true-true.is-0 c.in-true-true.is-1, neg_is a.x c.wrapping_neg.result c.ranges.x.fits c.wrapping_neg.type_inv c.wrapping_neg.ensures, neg_is a.y c.wrapping_neg-in-true-true.result c.ranges.y.fits c.wrapping_neg-in-true-true.type_inv c.wrapping_neg-in-true-true.ensures)

pub returns-in-true-false : goal.returns-in-true-false
returns-in-true-false c =
    let a = c.args in
    cc (sdiv_np a.x a.y c.in-true-false.is-0 c.in-true-false.is-1, neg_is a.x c.wrapping_neg-in-true-false.result c.ranges.x.fits c.wrapping_neg-in-true-false.type_inv c.wrapping_neg-in-true-false.ensures, neg_is c.quotient-in-true-false.result c.wrapping_neg-in-true-false-2.result c.quotient-in-true-false.type_inv c.wrapping_neg-in-true-false-2.type_inv c.wrapping_neg-in-true-false-2.ensures)

pub returns-in-false-true : goal.returns-in-false-true
returns-in-false-true c =
    let a = c.args in
    cc (sdiv_pn a.x a.y c.in-false-true.is-0 c.in-false-true.is-1, neg_is a.y c.wrapping_neg-in-false-true.result c.ranges.y.fits c.wrapping_neg-in-false-true.type_inv c.wrapping_neg-in-false-true.ensures, neg_is c.quotient-in-false-true.result c.wrapping_neg-in-false-true-2.result c.quotient-in-false-true.type_inv c.wrapping_neg-in-false-true-2.type_inv c.wrapping_neg-in-false-true-2.ensures)

pub returns-in-false-false : goal.returns-in-false-false
returns-in-false-false c =
    let a = c.args in
    cc (sdiv_pp a.x a.y c.in-false-false.is-0 c.in-false-false.is-1)
