-- Or and xor as the builder's lines have them, and masks. Assumes nothing.
use mathlib.Core.Path.{◌≡◌, ◌∙◌}
use Prim.Native.Nat.{ℕ, zero, suc, ◌+◌, ◌-◌, ◌*◌, ◌/◌, ◌%◌, ◌^◌, ◌<◌, min, max}
use native.Mathlib.Nat.{pow-suc, div-add-mod'}
use native.Mathlib.Omega.{arith}
use lib.Arith.{lt-one}
use lib.Pow.{pow_pos, shr_mod}
use lib.Bits.{bit_and, bit_or, bit_xor, and_step, or_step, or_lt, or_add_and, xor_add_and, and_mask, and_high}
use Rattle.bitvec.specs.Smtlib.{bvnot, bvand}
use Rattle.bitvec.proofs.Composed.{or_lines, xor_lines}
use Rattle.bitvec.proofs.Base.{sub_ge}

-- ---- or and xor, in lines

-- digit by digit: neither has it, or one has it
nor : (w a b : ℕ) → a < 2 ^ w → b < 2 ^ w → bit_and (2 ^ w - 1 - a) (2 ^ w - 1 - b) + bit_or a b ≡ 2 ^ w - 1
nor zero a b ha hb = rw (lt-one ha, lt-one hb)
nor (suc w) a b ha hb =
    rw (and_step (2 ^ suc w - 1 - a) (2 ^ suc w - 1 - b), or_step a b, half a ha, half b hb, odd a ha, odd b hb)
    (sum _ _ _ _ (nor w (a / 2) (b / 2) (omega (arith, pow-suc 2 w)) (omega (arith, pow-suc 2 w))) (digit (a % 2) (b % 2) (omega arith) (omega arith)))
  where
    half : (c : ℕ) → c < 2 ^ suc w → (2 ^ suc w - 1 - c) / 2 ≡ 2 ^ w - 1 - c / 2
    half c h = omega (arith, pow-suc 2 w)

    odd : (c : ℕ) → c < 2 ^ suc w → (2 ^ suc w - 1 - c) % 2 ≡ 1 - c % 2
    odd c h = omega (arith, pow-suc 2 w)

    digit : (p q : ℕ) → p < 2 → q < 2 → min (1 - p) (1 - q) + max p q ≡ 1
    digit p q hp hq = omega arith

    sum : (A O m M : ℕ) → A + O ≡ 2 ^ w - 1 → m + M ≡ 1 → A * 2 + m + (O * 2 + M) ≡ 2 ^ suc w - 1
    sum A O m M e f = omega (arith, pow-suc 2 w, pow_pos w)

pub or_lines_lem : (w a b : ℕ) → a < 2 ^ w → b < 2 ^ w → or_lines w a b ≡ bit_or a b
unfolding or_lines bvnot bvand
or_lines_lem w a b ha hb = omega (arith, nor w a b ha hb, or_lt w a b ha hb)

pub xor_lines_lem : (w a b : ℕ) → a < 2 ^ w → b < 2 ^ w → xor_lines w a b ≡ bit_xor a b
unfolding xor_lines bvand
xor_lines_lem w a b ha hb =
    rw (or_lines_lem w a b ha hb) (sub_ge w (omega (arith, or_add_and a b, xor_add_and a b)) (or_lt w a b ha hb) ∙ omega (arith, or_add_and a b, xor_add_and a b))

-- ---- masks

-- and a 63 is a % 64: `and_low 6 a`
pub and_low : (k a : ℕ) → bvand a (2 ^ k - 1) ≡ a % 2 ^ k
unfolding bvand
and_low k a = and_mask a k

-- and a (2 ^ 64 - 8) is a - a % 8: `and_multiple 61 3 a`
pub and_multiple : (j k : ℕ) {a : ℕ} → a < 2 ^ (j + k) → bvand a (2 ^ (j + k) - 2 ^ k) ≡ a - a % 2 ^ k
unfolding bvand
and_multiple j k {a} h = rw (and_high a j k, shr_mod j k h) (omega (arith, div-add-mod' a (2 ^ k)))

pub and_63 : (a : ℕ) → bvand a 63 ≡ a % 64
and_63 = and_low 6

pub and_31 : (a : ℕ) → bvand a 31 ≡ a % 32
and_31 = and_low 5

pub and_7 : (a : ℕ) → bvand a 7 ≡ a % 8
and_7 = and_low 3

pub and_word : (a : ℕ) → a < 2 ^ 64 → bvand a (2 ^ 64 - 8) ≡ a - a % 8
and_word a = and_multiple 61 3
