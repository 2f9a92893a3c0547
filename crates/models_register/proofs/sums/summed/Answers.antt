use Rattle.models.specs.Kinds.{summed}
use Rattle.builder.proofs.Builds.{on, stop}
use Rattle.models_register.proofs.sums.summed.Goals as goal

pub returns : goal.returns
unfolding summed
returns c = search (on, stop)
