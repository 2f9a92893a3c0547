-- The sums that refusal 8 has tested. Assumes nothing.
use mathlib.Core.Path.{refl}
use Rattle.lowering.specs.Lowering.{counts_after}
use Rattle.lowering_calls.proofs.apart.counts_after.Goals as goal

pub returns : goal.returns
unfolding counts_after
returns c = refl
