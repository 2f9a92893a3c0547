-- One digit or two. Assumes nothing.
use mathlib.Core.List.{[], ◌∷◌}
use native.Mathlib.Omega.{arith}
use Rattle.text.specs.Numeral.{glyph}
use Rattle.text.proofs.Laws.{put_as}
use Rattle.row_text.proofs.Split.{one, just_two}
use Rattle.row_text.proofs.digits.put_pair.Goals as goal

pub returns-then-x-lt10 : goal.returns-then-x-lt10
returns-then-x-lt10 c =
    let a = c.args in
    (put_as {s = glyph a.x ∷ []} (record { list = rw c.digit.ensures; next = omega arith }) (one 19 a.x c.if-x-lt10.true), omega arith)

pub returns : goal.returns
returns c =
    let a = c.args in
    (put_as c.put_two.ensures.0 (just_two a.x c.if-x-lt10.false (omega arith)), omega arith)
