-- Nothing has been read. Assumes nothing.
use Rattle.listing_bytes.specs.Pieces.{start}
use Rattle.listing_run.proofs.lines.Lister.new.Goals as goal

pub returns-clause-reading : goal.returns-clause-reading
unfolding start
returns-clause-reading c = rw c.start_state.ensures
