-- The digit is the number. Assumes nothing.
use Prim.Native.Nat.{ℕ, ◌+◌}
use mathlib.Core.List.{List, [], ◌∷◌}
use mathlib.Core.Path.{◌≡◌, ap}
use native.Mathlib.Numerals.{add-one}
use native.Mathlib.Omega.{arith}
use borrow.Author.Tests.{lt-ltb}
use Rattle.text.specs.Numeral.{decimal_text}
use Rattle.text.proofs.Laws.{put_as}
use Rattle.row_text.proofs.Split.{one}
use Rattle.row_text.proofs.digit_in.Goals as goal

pub returns : goal.returns
returns c =
    let d = c.args.d in
    let digit : (48 + d) ∷ [] ≡ decimal_text d = rw (lt-ltb d 10 c.requires.0) at (one 19 d c.requires.0) in
    (put_as {s = 32 ∷ (48 + d) ∷ []} (record { list = rw add-one; next = omega arith }) (ap (λ (s : List ℕ). 32 ∷ s) digit), omega arith)
