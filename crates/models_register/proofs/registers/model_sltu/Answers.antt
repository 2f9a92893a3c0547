use Rattle.models.specs.Kinds.{model_sltu}
use Rattle.builder.proofs.Builds.{on, stop}
use Rattle.models_register.proofs.registers.model_sltu.Goals as goal

pub returns : goal.returns
unfolding model_sltu
returns c = search (on, stop)
