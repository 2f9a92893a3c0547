-- One number after the others. Assumes nothing.
use native.Mathlib.Omega.{arith}
use Rattle.text.proofs.Laws.{then, put_as}
use Rattle.row_text.proofs.Rows.{number_more}
use Rattle.row_text.proofs.numbers_in.Goals as goal

pub loop-x-preserved : goal.loop-x-preserved
loop-x-preserved c = (put_as (then (omega arith) c.loop-x.invariant.0 c.spaced_in-p.ensures.0) (number_more c.args.numbers.now c.loop-x.x-index (omega arith)), omega (arith, c.spaced_in-p.ensures.1, c.loop-x.invariant.1))
