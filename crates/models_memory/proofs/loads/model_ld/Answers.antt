use Rattle.models.specs.Counters.{model_ld}
use Rattle.builder.proofs.Builds.{on, stop}
use Rattle.models_memory.proofs.loads.model_ld.Goals as goal

pub returns : goal.returns
unfolding model_ld
returns c = search (on, stop)
