use Rattle.models.specs.Kinds.{model_addi}
use Rattle.builder.proofs.Builds.{stop}
use Rattle.models_immediate.proofs.additions.model_addi.Goals as goal

pub returns-then-i : goal.returns-then-i
unfolding model_addi
returns-then-i c = rw c.if-i.true stop

pub returns : goal.returns
unfolding model_addi
returns c = let e = c.if-i.false in rw e (rw e at c.sum_with_constant.ensures)
