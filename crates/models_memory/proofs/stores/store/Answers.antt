use Rattle.models.specs.Counters.{model_store}
use Rattle.builder.proofs.Builds.{on}
use Rattle.models_memory.proofs.stores.store.Goals as goal

pub returns : goal.returns
unfolding model_store
returns c = search on
