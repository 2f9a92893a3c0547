-- A turn for each piece, each from where the one before left it. Assumes nothing.
use Rattle.std.proofs.Common.{true}
use Rattle.listing_run.specs.Turn.{Lists}
use Rattle.listing_run.specs.Lister.{progress_of, SameLists}
use Rattle.listing_run.proofs.read_all.Given as goal

abbrev pub invariant-loop : goal.invariant-loop
invariant-loop g l =
    let i = l.initial in record {
      listed : Lists (g.R.Read.remaining i.reader) (g.R.Read.remaining l.reader) (g.W.Write.contents i.writer) (g.W.Write.contents l.writer) (progress_of i.lent i.lister) (progress_of l.lent l.lister) true l.counter;
      same : SameLists i.lent i.lister l.lent l.lister;
    }
