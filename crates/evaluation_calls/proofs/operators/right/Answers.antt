use Rattle.std.proofs.Common.{sym}
use Rattle.bitvec.proofs.Base.{lshr_is, lshr_past}
use Rattle.evaluation_calls.proofs.operators.right.Goals as goal

pub returns-then-y-lt64 : goal.returns-then-y-lt64
returns-then-y-lt64 c = sym (lshr_is c.args.x c.if-y-lt64.true)

pub returns-else-y-lt64 : goal.returns-else-y-lt64
returns-else-y-lt64 c = sym (lshr_past c.args.x c.if-y-lt64.false)
