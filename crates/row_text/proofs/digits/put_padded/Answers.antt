-- Twice four digits. Assumes nothing.
use native.Mathlib.Omega.{arith}
use Rattle.text.proofs.Laws.{then}
use Rattle.row_text.proofs.digits.put_padded.Goals as goal

pub returns : goal.returns
returns c = (then (omega arith) c.put_four-p.ensures.0 c.put_four.ensures.0, omega arith)
