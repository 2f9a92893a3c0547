use Rattle.models.specs.Kinds.{with_register}
use Rattle.builder.proofs.Builds.{on, stop}
use Rattle.models_register.proofs.registers.with_register.Goals as goal

pub returns : goal.returns
unfolding with_register
returns c = search (on, stop)
