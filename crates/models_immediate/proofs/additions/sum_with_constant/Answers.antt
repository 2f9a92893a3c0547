use Rattle.models.specs.Kinds.{sum_with_constant}
use Rattle.builder.proofs.Builds.{on, stop}
use Rattle.models_immediate.proofs.additions.sum_with_constant.Goals as goal

pub returns : goal.returns
unfolding sum_with_constant
returns c = search (on, stop)
