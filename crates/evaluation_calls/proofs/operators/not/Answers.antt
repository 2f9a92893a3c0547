use Rattle.std.proofs.Common.{◌∙◌}
use Rattle.bitvec.specs.Smtlib.{bvnot}
use Rattle.evaluation_calls.proofs.Words.{bit_is, bit_not, not_bit}
use Rattle.evaluation_calls.proofs.operators.not.Goals as goal

pub returns-in-Bit : goal.returns-in-Bit
returns-in-Bit c = rw c.in-Bit.is (c.from.ensures ∙ bit_is _ ∙ bit_not c.args.x)

pub returns-in_default : goal.returns-in_default
unfolding bvnot
returns-in_default c = rw (not_bit c.args.s c.requires c.in_default.not-Bit, bvnot)
