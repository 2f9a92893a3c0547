-- The digits before the last are those of x / base, one fewer at most. Falls: k. Assumes nothing.
use mathlib.Core.Path.{refl}
use native.Mathlib.Omega.{arith}
use Rattle.text.specs.Numeral.{numeral}
use Rattle.text.proofs.Laws.{then, put_as, numeral_one, numeral_more}
use Rattle.text.proofs.+put_number.Goals as goal

pub returns-then-k-eq0 : goal.returns-then-k-eq0
unfolding numeral
returns-then-k-eq0 t c = rw c.if-k-eq0.true (record { list = refl; next = omega arith })

pub returns-then-x-base : goal.returns-then-x-base
returns-then-x-base t c =
    let a = c.args in
    put_as c.put_byte.ensures (numeral_one a.base a.k a.x _ c.if-k-eq0.false c.if-x-base.true c.digit-d.ensures)

pub returns : goal.returns
returns t c =
    let a = c.args in
    put_as
    (then (omega arith) c.put_number-p.ensures c.put_byte-2.ensures)
    (numeral_more a.base a.k a.x _ c.if-k-eq0.false c.if-x-base.false c.digit-d.ensures)
