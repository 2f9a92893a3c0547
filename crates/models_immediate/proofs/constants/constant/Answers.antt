use Rattle.models.specs.Kinds.{constant}
use Rattle.builder.proofs.Builds.{on, stop}
use Rattle.models_immediate.proofs.constants.constant.Goals as goal

pub returns : goal.returns
unfolding constant
returns c = search (on, stop)
