use Rattle.builder_ops.specs.Composed.{new_slt}
use Rattle.builder.proofs.Builds.{on}
use Rattle.builder_ops.proofs.operator.new_slt.Goals as goal

pub returns : goal.returns
unfolding new_slt
returns c = search on
