-- The digit, or the digits in an array of their own, and from there. Assumes nothing.
use native.Mathlib.Omega.{arith}
use borrow.Author.Tests.{lt-ltb}
use Rattle.text.proofs.Laws.{put_as}
use Rattle.row_text.proofs.Split.{one}
use Rattle.row_text.proofs.Pieces.{read_back}
use Rattle.row_text.proofs.put_number.Goals as goal

pub returns-then-x-lt10 : goal.returns-then-x-lt10
returns-then-x-lt10 c = put_as c.put_byte.ensures (rw (lt-ltb _ _ c.if-x-lt10.true) at (one 19 c.args.x c.if-x-lt10.true))

pub returns : goal.returns
returns c = put_as c.put_bytes.ensures (read_back c.put_in-n.ensures.0 c.put_in-n.ensures.1 (omega arith)).1
