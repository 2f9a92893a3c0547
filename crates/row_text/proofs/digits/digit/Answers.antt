-- A digit below ten. Assumes nothing.
use borrow.Author.Tests.{lt-ltb}
use Rattle.row_text.proofs.digits.digit.Goals as goal

pub returns : goal.returns
returns c = rw (lt-ltb _ _ c.requires)
