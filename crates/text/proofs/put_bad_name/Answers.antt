-- The fixed bytes, then the digits. Assumes nothing.
use native.Mathlib.Omega.{arith}
use Rattle.text.specs.BadName.{bad_name}
use Rattle.text.proofs.Laws.{then}
use Rattle.text.proofs.put_bad_name.Goals as goal

pub returns : goal.returns
unfolding bad_name
returns c = then (omega arith) c.put_bytes-p.ensures c.put_hex.ensures
