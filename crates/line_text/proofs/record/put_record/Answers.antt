-- A known record, or no text. Assumes nothing.
use Rattle.std.proofs.Common.{refl, arith}
use Rattle.text.proofs.Laws.{nothing}
use Rattle.line_text.specs.Record.{line_text, with_operands}
use Rattle.line_text.proofs.record.put_record.Goals as goal

pub returns-then-unsorted : goal.returns-then-unsorted
unfolding line_text
returns-then-unsorted c =
    let r = c.args.identified in
    nothing (omega arith) (rw (c.unsorted.ensures.unknown c.if-unsorted.true (with_operands r.line r.a.0 r.b.0 r.c.0) refl refl))
