use Rattle.builder_ops.specs.Composed.{new_or}
use Rattle.builder.proofs.Builds.{on}
use Rattle.builder_ops.proofs.new_or.Goals as goal

pub returns : goal.returns
unfolding new_or
returns c = search on
