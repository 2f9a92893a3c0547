-- Twice two digits. Assumes nothing.
use native.Mathlib.Omega.{arith}
use Rattle.text.proofs.Laws.{then}
use Rattle.row_text.proofs.digits.put_four.Goals as goal

pub returns : goal.returns
returns c = (then (omega arith) c.put_two-p.ensures.0 c.put_two.ensures.0, omega arith)
