-- The pieces in turn. Assumes nothing.
use mathlib.Core.List.{append_assoc}
use native.Mathlib.Omega.{arith}
use Rattle.text.proofs.Laws.{then, put_as}
use Rattle.row_text.proofs.put_head.Goals as goal

pub returns : goal.returns
returns c = then (omega arith) (put_as (then (omega arith) (then (omega arith) c.put_number-p.ensures c.put_byte-space.ensures) c.put_bytes-q.ensures) (rw append_assoc)) c.put_spaced.ensures
