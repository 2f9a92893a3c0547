use Rattle.models.specs.Counters.{model_address}
use Rattle.builder.proofs.Builds.{on, stop}
use Rattle.models_memory.proofs.address.model_address.Goals as goal

pub returns-then-i : goal.returns-then-i
unfolding model_address
returns-then-i c = rw c.if-i.true stop

pub returns : goal.returns
unfolding model_address
returns c = rw c.if-i.false (search on)
