-- The first record that is left is the node's at the address, or the others give what all do. Assumes nothing.
use Rattle.std.proofs.Common.{sym, ap, ◌∙◌, eq-eqb, ne_eqb}
use Rattle.std.specs.Slice.Iter.{chunks_exact_rest}
use Rattle.evaluation.specs.Given.{given_cell}
use Rattle.evaluation_calls.proofs.Records.{cell_next, cell_none}
use Rattle.evaluation_calls.proofs.given_records.first_cell.Goals as goal
use Rattle.evaluation_calls.proofs.given_records.first_cell.Goals.{else-record-place-via-then-record-place+else-record-address, else-record-place-via-else-record-place}

pub returns-then-record-address : goal.returns-then-record-address
returns-then-record-address c =
    let a = c.args in
    let s = c.in-Some.ensures.steps in
    let i = c.loop-record.invariant in
    let e = cell_next c.in-Some.record.now (chunks_exact_rest c.next.new.self) a.place.0 a.address (s.1.1 ∙ i.2) in
    sym (rw (eq-eqb _ _ c.if-record-place.true, eq-eqb _ _ c.if-record-address.true) at e) ∙ ap (λ l. given_cell l a.place.0 a.address) (sym s.1.0) ∙ i.3

pub loop-record-preserved : goal.loop-record-preserved
loop-record-preserved c =
    let a = c.args in
    let s = c.in-Some.ensures.steps in
    let i = c.loop-record.invariant in
    let e = cell_next c.in-Some.record.now (chunks_exact_rest c.next.new.self) a.place.0 a.address (s.1.1 ∙ i.2) in
    let rest = ap (λ l. given_cell l a.place.0 a.address) (sym s.1.0) ∙ i.3 in (
      rw s.0 i.0,
      tt,
      s.0 ∙ i.2,
      elim c.else-record-place.branch [
        | else-record-place-via-then-record-place+else-record-address w ↦ sym (rw (eq-eqb _ _ w.if-record-place.true, ne_eqb _ _ w.if-record-address.false) at e) ∙ rest
        | else-record-place-via-else-record-place w ↦ sym (rw (ne_eqb _ _ w.if-record-place.false) at e) ∙ rest
      ],
    )

pub returns : goal.returns
returns c =
    let s = c.in-None.ensures.steps in
    let i = c.loop-record.invariant in
    cell_none (chunks_exact_rest c.loop-record.record-iterator) c.args.place.0 c.args.address (rw i.2 at s.1.0) ∙ i.3
