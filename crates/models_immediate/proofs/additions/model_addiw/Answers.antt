use Rattle.models.specs.Kinds.{model_addiw}
use Rattle.builder.proofs.Builds.{on, stop}
use Rattle.models_immediate.proofs.additions.model_addiw.Goals as goal

pub returns : goal.returns
unfolding model_addiw
returns c = search (on, stop)
