use Rattle.models.specs.Counters.{word_address}
use Rattle.builder.proofs.Builds.{on}
use Rattle.models_memory.proofs.address.word_address.Goals as goal

pub returns : goal.returns
unfolding word_address
returns c = search on
