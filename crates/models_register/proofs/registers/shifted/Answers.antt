use Rattle.models.specs.Kinds.{shifted}
use Rattle.builder.proofs.Builds.{on, stop}
use Rattle.models_register.proofs.registers.shifted.Goals as goal

pub returns : goal.returns
unfolding shifted
returns c = search (on, stop)
