use Rattle.models.specs.Kinds.{model_sltiu}
use Rattle.builder.proofs.Builds.{on, stop}
use Rattle.models_immediate.proofs.immediates.model_sltiu.Goals as goal

pub returns : goal.returns
unfolding model_sltiu
returns c = search (on, stop)
