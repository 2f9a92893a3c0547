use Rattle.builder_ops.specs.Composed.{new_shift_right}
use Rattle.builder_ops.proofs.extend.new_shift_right.Goals as goal

pub returns-then-signed : goal.returns-then-signed
unfolding new_shift_right
returns-then-signed c = rw c.if-signed.true c.new_sra.ensures

pub returns : goal.returns
unfolding new_shift_right
returns c = rw c.if-signed.false c.new_bin.ensures
