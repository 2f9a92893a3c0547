-- The digits before the last eight, and these. Assumes nothing.
use native.Mathlib.Omega.{arith}
use Rattle.text.proofs.Laws.{then, put_as}
use Rattle.row_text.proofs.Split.{before_eight, at_most_eight}
use Rattle.row_text.proofs.digits.put_twelve.Goals as goal

pub returns-then-x-lt100000000 : goal.returns-then-x-lt100000000
returns-then-x-lt100000000 c = let x = c.args.x in (c.put_decimal.ensures, omega (arith, c.put_decimal.ensures.next, at_most_eight x c.if-x-lt100000000.true))

pub returns : goal.returns
returns c =
    let a = c.args in
    (put_as (then (omega arith) c.put_short-p.ensures.0 c.put_padded.ensures.0) (before_eight a.x c.if-x-lt100000000.false (omega arith)), omega arith)
