use Rattle.models.specs.Counters.{bit_offset}
use Rattle.builder.proofs.Builds.{on}
use Rattle.models_memory.proofs.address.bit_offset.Goals as goal

pub returns : goal.returns
unfolding bit_offset
returns c = search on
