use Rattle.models.specs.Kinds.{model_ecall}
use Rattle.builder.proofs.Builds.{on, stop}
use Rattle.models_register.proofs.control.model_ecall.Goals as goal

pub returns : goal.returns
unfolding model_ecall
returns c = search (on, stop)
