use Rattle.builder_ops.specs.Composed.{new_ugte}
use Rattle.builder.proofs.Builds.{on}
use Rattle.builder_ops.proofs.operator.new_ugte.Goals as goal

pub returns : goal.returns
unfolding new_ugte
returns c = search on
