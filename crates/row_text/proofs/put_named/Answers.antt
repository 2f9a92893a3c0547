-- The pieces of the row. Assumes nothing.
use native.Mathlib.Omega.{arith}
use Rattle.text.proofs.Laws.{then, put_as}
use Rattle.row_text.proofs.Rows.{named_row}
use Rattle.row_text.proofs.put_named.Goals as goal

pub returns : goal.returns
returns c =
    let a = c.args in
    put_as
    (then (omega arith) (then (omega arith) (then (omega arith) c.put_head-head.ensures c.put_byte-space.ensures) c.put_bytes-named.ensures) c.put_byte.ensures)
    (named_row a.nid a.word.now a.number a.name.now)
