-- The record by the identifiers of its operands. Assumes nothing.
use Rattle.std.proofs.Common.{length, ap}
use Rattle.btor2_list.specs.Record.{capacity}
use Rattle.text.proofs.Laws.{put_as}
use Rattle.line_text.specs.Record.{line_text}
use Rattle.line_text.proofs.KnownKinds.{by_identifiers}
use Rattle.line_text.specs.Line.{nodes, nid_at}
use Rattle.line_text.proofs.Listed.{nid_all}
use Rattle.line_text.proofs.put_line.Goals as goal

pub returns : goal.returns
returns c =
    let l = c.args.line in
    let ws = c.args.list.now in
    let f = nid_at (nodes ws (capacity (length ws))) in
    let text = ap (line_text _ l.nid.0) (by_identifiers f l) in
    put_as c.put_record.ensures (rw (c.nid_at.ensures, c.nid_at-2.ensures, c.nid_at-3.ensures, nid_all ws l.op1.0, nid_all ws l.op2.0, nid_all ws l.op3.0) text)
