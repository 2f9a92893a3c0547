use Rattle.models.specs.Kinds.{model_mul}
use Rattle.builder.proofs.Builds.{on, stop}
use Rattle.models_register.proofs.products.model_mul.Goals as goal

pub returns : goal.returns
unfolding model_mul
returns c = search (on, stop)
