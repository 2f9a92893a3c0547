use Rattle.builder_ops.specs.Composed.{new_neq}
use Rattle.builder.proofs.Builds.{on}
use Rattle.builder_ops.proofs.new_neq.Goals as goal

pub returns : goal.returns
unfolding new_neq
returns c = search on
