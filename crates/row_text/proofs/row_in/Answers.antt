-- The pieces of the row, and their bounds. Assumes nothing.
use mathlib.Core.Path.{refl}
use mathlib.Core.List.{[], ◌∷◌}
use native.Mathlib.Omega.{arith}
use Rattle.text.proofs.Laws.{then, put_as}
use Rattle.row_text.proofs.Rows.{numbers_row}
use Rattle.row_text.proofs.row_in.Goals as goal

pub returns : goal.returns
returns c =
    let a = c.args in
    let numbers = then (omega arith) c.head_in-head.ensures.0 c.numbers_in-end.ensures.0 in
    (put_as (then {t = 10 ∷ []} (omega arith) numbers (record { list = refl; next = omega (arith, c.head_in-head.ensures.1, c.numbers_in-end.ensures.1) })) (numbers_row a.nid a.word.now a.sort a.numbers.now), omega (arith, c.head_in-head.ensures.1, c.numbers_in-end.ensures.1))
