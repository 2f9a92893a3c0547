-- The first record that is left is the node's, or the others give what all do. Assumes nothing.
use Rattle.std.proofs.Common.{sym, ap, ◌∙◌, eq-eqb, ne_eqb}
use Rattle.std.specs.Slice.Iter.{chunks_exact_rest}
use Rattle.evaluation.specs.Given.{given_value}
use Rattle.evaluation_calls.proofs.Records.{value_next, value_none}
use Rattle.evaluation_calls.proofs.given_records.first_value.Goals as goal

pub returns-then-record-place : goal.returns-then-record-place
returns-then-record-place c =
    let s = c.in-Some.ensures.steps in
    let i = c.loop-record.invariant in
    let e = value_next c.in-Some.record.now (chunks_exact_rest c.next.new.self) c.args.place.0 (s.1.1 ∙ i.2) in
    sym (rw (eq-eqb _ _ c.if-record-place.true) at e) ∙ ap (λ l. given_value l c.args.place.0) (sym s.1.0) ∙ i.3

pub loop-record-preserved : goal.loop-record-preserved
loop-record-preserved c =
    let s = c.in-Some.ensures.steps in
    let i = c.loop-record.invariant in
    let e = value_next c.in-Some.record.now (chunks_exact_rest c.next.new.self) c.args.place.0 (s.1.1 ∙ i.2) in
    (rw s.0 i.0, tt, s.0 ∙ i.2, sym (rw (ne_eqb _ _ c.if-record-place.false) at e) ∙ ap (λ l. given_value l c.args.place.0) (sym s.1.0) ∙ i.3)

pub returns : goal.returns
returns c =
    let s = c.in-None.ensures.steps in
    let i = c.loop-record.invariant in
    value_none (chunks_exact_rest c.loop-record.record-iterator) c.args.place.0 (rw i.2 at s.1.0) ∙ i.3
