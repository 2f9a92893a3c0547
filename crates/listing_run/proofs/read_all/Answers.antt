-- A turn for each piece, each from where the one before left it. Assumes nothing.
use Rattle.std.proofs.Common.{rules}
use Rattle.listing_run.specs.Lister.{progress_of}
use Rattle.listing_run.proofs.Bytes.{further, not_begun, goes_on, no_more, reached}
use Rattle.listing_run.proofs.read_all.Goals as goal

pub loop-init : goal.loop-init
loop-init g c = record { listed = not_begun; same = search rules }

pub returns-in_err-more-clause-reached : goal.returns-in_err-more-clause-reached
returns-in_err-more-clause-reached g c = further (reached c.loop.invariant.listed) c.in_err-more.ensures.reached

pub returns-then-not-more-clause-reached : goal.returns-then-not-more-clause-reached
returns-then-not-more-clause-reached g c = further (reached c.loop.invariant.listed) c.in_ok-more.ensures.reached

pub returns-then-not-more-clause-listed : goal.returns-then-not-more-clause-listed
returns-then-not-more-clause-listed g c =
    let last = rw c.if-not-more.true at c.in_ok-more.ensures.listed in
    let left = progress_of c.read_piece.new.lent c.read_piece.new.lister in
    no_more {q = left} (goes_on {r = left} c.loop.invariant.listed last)

pub loop-preserved : goal.loop-preserved
loop-preserved g c =
    let next = rw c.if-not-more.false at c.in_ok-more.ensures.listed in
    let left = progress_of c.read_piece.new.lent c.read_piece.new.lister in
    record { listed = goes_on {r = left} c.loop.invariant.listed next; same = search rules }
