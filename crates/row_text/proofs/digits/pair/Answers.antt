-- Both digits, from the quotient by ten. Assumes nothing.
use Prim.Native.Nat.{ℕ, ◌*◌, ◌/◌, ◌%◌, ◌<◌}
use mathlib.Core.Path.{◌≡◌}
use native.Mathlib.Omega.{arith}
use borrow.Author.Tests.{lt-ltb}
use Rattle.row_text.proofs.digits.pair.Goals as goal

tenth : (x : ℕ) → x < 100 → x * 103 / 1024 ≡ x / 10
tenth x h = omega arith

pub returns : goal.returns
returns c =
    let x = c.args.x in
    let first : x / 10 < 10 = omega (arith, c.requires) in
    let second : x % 10 < 10 = omega arith in
    rw (tenth x c.requires, lt-ltb _ _ first, lt-ltb _ _ second) (omega arith)
