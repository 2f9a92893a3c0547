use Rattle.models.specs.Kinds.{link}
use Rattle.builder.proofs.Builds.{stop}
use Rattle.models_immediate.proofs.constants.link.Goals as goal

pub returns-then-i : goal.returns-then-i
unfolding link
returns-then-i c f = rw c.if-i.true stop

pub returns : goal.returns
unfolding link
returns c f = rw c.if-i.false (c.constant.ensures f)
