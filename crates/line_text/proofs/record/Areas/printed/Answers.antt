-- The mark of a name says which bytes are printed. Assumes nothing.
use Rattle.std.proofs.Common.{eq-eqb, ne_eqb}
use Rattle.line_text.specs.Record.{printed_name}
use Rattle.line_text.proofs.record.Areas.printed.Goals as goal
use Rattle.line_text.proofs.record.Areas.printed.Goals.{then-name-eq-HOST_AREA-via-then-name-eq-HOST_AREA, then-name-eq-HOST_AREA-via-else-name-eq-HOST_AREA+then-name-eq-OUR_AREA}

pub returns-then-name-eq-HOST_AREA : goal.returns-then-name-eq-HOST_AREA
unfolding printed_name
returns-then-name-eq-HOST_AREA c =
    elim c.then-name-eq-HOST_AREA.branch [
      | then-name-eq-HOST_AREA-via-then-name-eq-HOST_AREA w ↦ rw (c.name_bytes.ensures, eq-eqb _ _ w.if-name-eq-HOST_AREA.true)
      | then-name-eq-HOST_AREA-via-else-name-eq-HOST_AREA+then-name-eq-OUR_AREA w ↦ rw (c.name_bytes.ensures, ne_eqb _ _ w.if-name-eq-HOST_AREA.false, eq-eqb _ _ w.if-name-eq-OUR_AREA.true)
    ]

pub returns : goal.returns
unfolding printed_name
returns c = rw (ne_eqb _ _ c.if-name-eq-HOST_AREA.false, ne_eqb _ _ c.if-name-eq-OUR_AREA.false)
