use Rattle.builder_ops.specs.Composed.{new_xor}
use Rattle.builder.proofs.Builds.{on}
use Rattle.builder_ops.proofs.operator.new_xor.Goals as goal

pub returns : goal.returns
unfolding new_xor
returns c = search on
