-- The digits before the last two, and these. Assumes nothing.
use native.Mathlib.Omega.{arith}
use Rattle.text.proofs.Laws.{then, put_as}
use Rattle.row_text.proofs.Split.{before_two}
use Rattle.row_text.proofs.digits.put_short.Goals as goal

pub returns : goal.returns
returns c =
    let a = c.args in
    (put_as (then (omega arith) c.put_pair-p.ensures.0 c.put_two.ensures.0) (before_two a.x c.if-x-lt100.false (omega arith)), omega arith)
