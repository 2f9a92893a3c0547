use Rattle.models.specs.Kinds.{with_constant}
use Rattle.builder.proofs.Builds.{on, stop}
use Rattle.models_immediate.proofs.immediates.with_constant.Goals as goal

pub returns : goal.returns
unfolding with_constant
returns c = search (on, stop)
