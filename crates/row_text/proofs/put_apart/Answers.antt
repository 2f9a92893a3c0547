-- The row in the array, read back. Assumes nothing.
use native.Mathlib.Omega.{arith}
use Rattle.text.proofs.Laws.{put_as, put_length}
use Rattle.row_text.proofs.Pieces.{read_back}
use Rattle.row_text.proofs.put_apart.Goals as goal

pub slice_bounds-row-end : goal.slice_bounds-row-end
slice_bounds-row-end c = omega (arith, c.has_room.ensures c.if-has_room.true, c.row_in-n.ensures.1, put_length c.row_in-n.ensures.0)

pub slice_bounds-put_bytes-end : goal.slice_bounds-put_bytes-end
slice_bounds-put_bytes-end c = let back = read_back c.row_in-n.ensures.0 (omega (arith, c.has_room.ensures c.if-has_room.true, c.row_in-n.ensures.1)) (omega arith) in rw back.1 back.0

pub returns-then-has_room : goal.returns-then-has_room
returns-then-has_room c = put_as c.put_bytes.ensures (read_back c.row_in-n.ensures.0 (omega (arith, c.has_room.ensures c.if-has_room.true, c.row_in-n.ensures.1)) (omega arith)).1
