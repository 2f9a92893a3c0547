use Rattle.builder_ops.specs.Composed.{new_sgte}
use Rattle.builder.proofs.Builds.{on}
use Rattle.builder_ops.proofs.operator.new_sgte.Goals as goal

pub returns : goal.returns
unfolding new_sgte
returns c = search on
