use Rattle.builder_ops.specs.Composed.{new_sext_by}
use Rattle.builder.proofs.Builds.{on}
use Rattle.builder_ops.proofs.extend.new_sext_by.Goals as goal

pub returns : goal.returns
unfolding new_sext_by
returns c = search on
