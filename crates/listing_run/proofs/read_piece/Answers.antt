-- Nothing came, or a piece is taken. Assumes nothing.
use Rattle.std.proofs.Common.{arith}
use Rattle.listing_run.proofs.Bytes.{here, nothing}
use Rattle.listing_run.proofs.read_piece.Goals as goal

pub returns-in_err-n-clause-reached : goal.returns-in_err-n-clause-reached
returns-in_err-n-clause-reached g c = here _

pub returns-then-n-eq0-clause-reached : goal.returns-then-n-eq0-clause-reached
returns-then-n-eq0-clause-reached g c = here _

pub returns-then-n-eq0-clause-listed : goal.returns-then-n-eq0-clause-listed
returns-then-n-eq0-clause-listed g c =
    let came = c.in_ok-n.ensures.bytes in
    let none = c.if-n-eq0.true in
    nothing c.in_ok-n.n c.read.new.buf none came.0 (came.1 none (omega arith))
