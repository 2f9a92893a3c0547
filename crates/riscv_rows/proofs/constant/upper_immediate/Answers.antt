-- The two halves of the field's range. Assumes nothing.
use Rattle.std.proofs.Common.{◌^◌, le-ltb, lt-ltb}
use Rattle.riscv.specs.Constant.{upper}
use Rattle.riscv_rows.proofs.constant.upper_immediate.Goals as goal

pub returns-then-field-lt524288 : goal.returns-then-field-lt524288
unfolding upper
returns-then-field-lt524288 c = rw (lt-ltb _ _ c.if-field-lt524288.true)

pub returns-else-field-lt524288 : goal.returns-else-field-lt524288
unfolding upper
returns-else-field-lt524288 c = rw (le-ltb _ (2 ^ 19) c.if-field-lt524288.false)
