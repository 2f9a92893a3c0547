-- Field by field. Assumes nothing.
use Rattle.std.proofs.Common.{refl}
use Rattle.listing_bytes.specs.Step.{emptied}
use Rattle.listing_step.proofs.emptied.Goals as goal

pub returns : goal.returns
unfolding emptied
returns c = refl
