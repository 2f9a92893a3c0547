use Rattle.models.specs.Kinds.{model_remu}
use Rattle.builder.proofs.Builds.{on, stop}
use Rattle.models_register.proofs.divisions.model_remu.Goals as goal

pub returns : goal.returns
unfolding model_remu
returns c = search (on, stop)
