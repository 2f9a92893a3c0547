-- The fixed bytes, then the digits. Assumes nothing.
use native.Mathlib.Omega.{arith}
use Rattle.text.proofs.Laws.{then}
use Rattle.join.specs.FlagName.{flag_name}
use Rattle.join_calls.proofs.names.put_flag_name.Goals as goal

pub returns : goal.returns
unfolding flag_name
returns c = then (omega arith) c.put_bytes-p.ensures c.put_decimal.ensures
