use Rattle.models.specs.Kinds.{addi_result}
use Rattle.builder.proofs.Builds.{stop}
use Rattle.models_immediate.proofs.additions.addi_result.Goals as goal

pub returns-then-i : goal.returns-then-i
unfolding addi_result
returns-then-i c = rw c.if-i.true stop

pub returns-then-i-2 : goal.returns-then-i-2
unfolding addi_result
returns-then-i-2 c = rw (c.if-i.false, c.if-i-2.true) c.new_const.ensures

pub returns : goal.returns
unfolding addi_result
returns c = rw (c.if-i.false, c.if-i-2.false) c.new_bin.ensures
