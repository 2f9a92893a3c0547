use Rattle.std.proofs.Common.{sym, le-ltb}
use Rattle.bitvec.proofs.Base.{shl_raw}
use Rattle.bitvec.specs.Smtlib.{bvshl}
use Rattle.evaluation_calls.proofs.operators.left.Goals as goal

pub returns-then-y-lt64 : goal.returns-then-y-lt64
returns-then-y-lt64 c = sym (shl_raw c.args.x c.if-y-lt64.true)

pub returns-else-y-lt64 : goal.returns-else-y-lt64
unfolding bvshl
returns-else-y-lt64 c = rw (le-ltb _ _ c.if-y-lt64.false, bvshl)
