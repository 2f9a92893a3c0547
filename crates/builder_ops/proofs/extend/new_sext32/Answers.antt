use Rattle.builder_ops.specs.Composed.{new_sext32}
use Rattle.builder.proofs.Builds.{on}
use Rattle.builder_ops.proofs.extend.new_sext32.Goals as goal

pub returns : goal.returns
unfolding new_sext32
returns c = search on
