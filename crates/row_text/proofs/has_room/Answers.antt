-- The room, which is not capped, is at most what is left. Assumes nothing.
use native.Mathlib.Omega.{arith}
use borrow.Author.Tests.{leb-true}
use Rattle.row_text.proofs.has_room.Goals as goal

pub returns : goal.returns
returns c e = omega (arith, leb-true _ _ e)
