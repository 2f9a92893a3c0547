use Rattle.models.specs.Kinds.{divided}
use Rattle.builder.proofs.Builds.{on, stop}
use Rattle.models_register.proofs.divisions.divided.Goals as goal

pub returns : goal.returns
unfolding divided
returns c = search (on, stop)
