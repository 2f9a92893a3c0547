-- The identifier of the record, where there is one. Assumes nothing.
use Rattle.std.proofs.Common.{sym, ◌∙◌, arith}
use Rattle.line_text.proofs.Listed.{length-nodes, nid_outside, nid_held}
use Rattle.line_text.proofs.nid_at.Goals as goal

pub returns-then-lines-place : goal.returns-then-lines-place
returns-then-lines-place c =
    let a = c.args in
    sym (nid_outside a.list.now a.lines a.place.0 (omega (arith, length-nodes a.list.now a.lines 0, c.if-lines-place.true)))

pub returns : goal.returns
returns c =
    let a = c.args in
    c.nid_at.ensures ∙ nid_held a.list.now a.lines a.place.0 c.if-lines-place.false
