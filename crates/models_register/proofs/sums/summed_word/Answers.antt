use Rattle.models.specs.Kinds.{summed_word}
use Rattle.builder.proofs.Builds.{on, stop}
use Rattle.models_register.proofs.sums.summed_word.Goals as goal

pub returns : goal.returns
unfolding summed_word
returns c = search (on, stop)
