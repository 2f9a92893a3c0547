use Rattle.models.specs.Counters.{model_load}
use Rattle.builder.proofs.Builds.{on}
use Rattle.models_memory.proofs.loads.load.Goals as goal

pub returns : goal.returns
unfolding model_load
returns c = search on
