-- The row, and the init's after it. Assumes nothing.
use Rattle.std.proofs.Common.{append-nil, eq-eqb, ne_eqb}
use Rattle.text.proofs.Laws.{then, put_as}
use Rattle.line_text.proofs.record.put_state.Goals as goal

pub returns-then-line-eq0 : goal.returns-then-line-eq0
returns-then-line-eq0 c = put_as c.put_named-p.ensures (rw (eq-eqb _ _ c.if-line-eq0.true, append-nil))

pub returns : goal.returns
returns c = put_as (then c.well_formed.0.0 c.put_named-p.ensures c.put_row.ensures) (rw (ne_eqb _ _ c.if-line-eq0.false))
