-- The digits before the last eight, and these. Assumes nothing.
use native.Mathlib.Omega.{arith}
use Rattle.text.proofs.Laws.{then, put_as}
use Rattle.row_text.proofs.Split.{before_eight}
use Rattle.row_text.proofs.digits.put_long.Goals as goal

pub returns : goal.returns
returns c =
    let a = c.args in
    (put_as (then (omega arith) c.put_twelve-p.ensures.0 c.put_padded.ensures.0) (before_eight a.x (omega arith) (omega arith)), omega (arith, c.put_twelve-p.ensures.1, c.put_padded.ensures.1))
