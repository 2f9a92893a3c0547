-- The two digits. Assumes nothing.
use Prim.Native.Nat.{ℕ, ◌+◌, ◌*◌, ◌/◌, ◌%◌, ◌<◌}
use mathlib.Core.Path.{◌≡◌, refl}
use native.Mathlib.Numerals.{add-one}
use native.Mathlib.Omega.{arith}
use lib.ListN.{length-set}
use borrow.Author.Tests.{lt-ltb}
use Rattle.text.specs.Numeral.{glyph}
use Rattle.row_text.proofs.digits.put_two.Goals as goal

-- a digit is a byte
digit_byte : (d : ℕ) → d < 10 → glyph d < 256
digit_byte d h = rw (lt-ltb d 10 h) (omega arith)

low : (a b : ℕ) → a < 256 → (a + 256 * b) % 256 ≡ a
low a b h = omega arith

high : (a b : ℕ) → a < 256 → (a + 256 * b) / 256 ≡ b
high a b h = omega arith

pub overflow_cast-out-2 : goal.overflow_cast-out-2
overflow_cast-out-2 c =
    let x = c.args.x in
    let first = digit_byte (x / 10) (omega (arith, c.requires.0)) in
    record { fits = rw (c.pair-w.ensures, high (glyph (x / 10)) (glyph (x % 10)) first) (digit_byte (x % 10) (omega arith)) }

pub bounds-out-at-2 : goal.bounds-out-at-2
bounds-out-at-2 c = rw length-set (omega arith)

pub returns : goal.returns
returns c =
    let x = c.args.x in
    let first = digit_byte (x / 10) (omega (arith, c.requires.0)) in
    let w = c.pair-w.ensures in
    (record { list = rw (add-one, w, low (glyph (x / 10)) (glyph (x % 10)) first, high (glyph (x / 10)) (glyph (x % 10)) first); next = omega arith }, refl)
