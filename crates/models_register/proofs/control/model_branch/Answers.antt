use Rattle.models.specs.Kinds.{model_branch}
use Rattle.builder.proofs.Builds.{on, stop}
use Rattle.models_register.proofs.control.model_branch.Goals as goal

pub returns : goal.returns
unfolding model_branch
returns c = search (on, stop)
