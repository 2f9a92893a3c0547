-- The digits before the last four, and these. Assumes nothing.
use native.Mathlib.Omega.{arith}
use Rattle.text.proofs.Laws.{then, put_as}
use Rattle.row_text.proofs.Split.{before_four}
use Rattle.row_text.proofs.digits.put_eight.Goals as goal

pub returns : goal.returns
returns c =
    let a = c.args in
    (put_as (then (omega arith) c.put_short-p.ensures.0 c.put_four.ensures.0) (before_four a.x c.if-x-lt10000.false (omega arith)), omega arith)
