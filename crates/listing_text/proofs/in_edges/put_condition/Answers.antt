-- No condition is a dash, another its line's identifier. Assumes nothing.
use Rattle.text.proofs.Laws.{put_as}
use borrow.Author.Tests.{eq-eqb, ne_eqb}
use Rattle.listing_text.proofs.in_edges.put_condition.Goals as goal

pub returns-then-condition-eq-NO_CONDITION : goal.returns-then-condition-eq-NO_CONDITION
returns-then-condition-eq-NO_CONDITION c = put_as c.put_bytes.ensures (rw (eq-eqb _ _ c.if-condition-eq-NO_CONDITION.true))

pub returns : goal.returns
returns c = put_as c.put_decimal.ensures (rw (c.nid_at-nid.ensures, ne_eqb _ _ c.if-condition-eq-NO_CONDITION.false))
