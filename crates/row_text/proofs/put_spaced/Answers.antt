-- The pieces in turn. Assumes nothing.
use native.Mathlib.Omega.{arith}
use Rattle.text.proofs.Laws.{then}
use Rattle.row_text.proofs.put_spaced.Goals as goal

pub returns : goal.returns
returns c = then (omega arith) c.put_byte-p.ensures c.put_number.ensures
