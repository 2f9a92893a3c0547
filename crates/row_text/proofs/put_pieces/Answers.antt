-- The head, one number after the other, and the end. Assumes nothing.
use mathlib.Core.List.{append-nil, append_assoc}
use mathlib.Core.Path.{sym}
use native.Mathlib.Omega.{arith}
use lib.Seq.{take_all}
use Rattle.text.proofs.Laws.{then, put_as}
use Rattle.row_text.proofs.Rows.{number_more, numbers_row}
use Rattle.row_text.proofs.put_pieces.Goals as goal

pub loop-x-init : goal.loop-x-init
loop-x-init c = put_as c.put_head-p.ensures (sym (append-nil _))

pub loop-x-preserved : goal.loop-x-preserved
loop-x-preserved c = put_as (then (omega arith) c.loop-x.invariant c.put_spaced-p.ensures) (rw (append_assoc, number_more c.args.numbers.now c.loop-x.x-index (omega arith)))

pub returns : goal.returns
returns c =
    let a = c.args in
    put_as (then (omega arith) c.loop-x.invariant c.put_byte.ensures) (rw (take_all c.loop-x.x-index a.numbers.now c.loop-x-test.false) (numbers_row a.nid a.word.now a.sort a.numbers.now))
