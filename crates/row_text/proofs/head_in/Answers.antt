-- The number, the space and the word, and a digit or a number. Assumes nothing.
use mathlib.Core.Path.{refl}
use mathlib.Core.List.{[], ◌∷◌, append_assoc}
use native.Mathlib.Omega.{arith}
use Rattle.text.proofs.Laws.{then, put_as}
use Rattle.row_text.proofs.head_in.Goals as goal

pub returns-then-sort-lt10 : goal.returns-then-sort-lt10
returns-then-sort-lt10 c =
    let number = c.put_in-space.ensures in
    let spaced = then {t = 32 ∷ []} (omega arith) number.0 (record { list = refl; next = omega (arith, number.1) }) in
    let worded = put_as (then (omega arith) spaced c.bytes_in-end.ensures.0) (rw append_assoc) in
    (then (omega arith) worded c.digit_in.ensures.0, omega (arith, number.1, c.bytes_in-end.ensures.1, c.digit_in.ensures.1))

pub returns : goal.returns
returns c =
    let number = c.put_in-space.ensures in
    let spaced = then {t = 32 ∷ []} (omega arith) number.0 (record { list = refl; next = omega (arith, number.1) }) in
    let worded = put_as (then (omega arith) spaced c.bytes_in-end.ensures.0) (rw append_assoc) in
    (then (omega arith) worded c.spaced_in.ensures.0, omega (arith, number.1, c.bytes_in-end.ensures.1, c.spaced_in.ensures.1))
