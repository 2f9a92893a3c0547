-- Sign extension sees the low bits alone, so the word instructions' results are those of 32 bits, extended. Assumes nothing.
use mathlib.Core.Path.{◌≡◌, refl, sym, ap, ◌∙◌}
use mathlib.Core.Bool.{true, false}
use Prim.Native.Nat.{ℕ, zero, ◌+◌, ◌-◌, ◌*◌, ◌/◌, ◌%◌, ◌^◌, ◌≤◌, ◌<◌}
use native.Mathlib.Nat.{mod-lt, mod-eq_of_lt, mod-mod, div-add-mod', add-mod, mul_assoc, add-zero, sub-add_cancel, lt_of_lt_of_le, mul-one, sub-le, le_of_lt}
use native.Mathlib.Omega.{arith}
use lib.Pow.{pow_pos, pow_mono, pow-add, high_ones, field}
use Rattle.bitvec.specs.Smtlib.{negative, bvadd, bvsub, bvmul, bvshl, bvlshr}
use Rattle.bitvec.specs.TwosComplement.{sext, sra}
use Rattle.bitvec.proofs.Base.{by_le, mod_is, mod_same, mul-mod, pow_sum, pow_half, mod_low, sub_is, shl_is, shl_raw, sext_pos, sext_neg}
use Rattle.bitvec.proofs.Shift.{lshr-shl, sra-shl, sra_shl_low}

-- ---- sext sees x % 2 ^ k alone

pub sext_same : (k w x y : ℕ) → x % 2 ^ k ≡ y % 2 ^ k → sext k w x ≡ sext k w y
unfolding sext
sext_same k w x y e = ap {B = ℕ} (λ (r : ℕ). elim (negative k r) [ true ↦ r + (2 ^ w - 2 ^ k) | false ↦ r ]) e

pub sext_mod : (k w x : ℕ) → sext k w (x % 2 ^ k) ≡ sext k w x
sext_mod k w x = sext_same k w (x % 2 ^ k) x (mod-mod x (2 ^ k))

-- and keeps it
pub sext_low : (k w x : ℕ) → k ≤ w → sext k w x % 2 ^ k ≡ x % 2 ^ k
sext_low k w x h =
    by_le (2 ^ (k - 1)) (x % 2 ^ k)
    (λ n. rw (sext_neg k w x n) (mod_is (2 ^ (w - k) - 1) (omega (arith, rw (sub-add_cancel h) at (high_ones (w - k) k))) (mod-lt x (pow_pos k))))
    (λ p. rw (sext_pos k w x p) (mod-mod x (2 ^ k)))

pub sext_lt : (k w x : ℕ) → k ≤ w → sext k w x < 2 ^ w
sext_lt k w x h =
    by_le (2 ^ (k - 1)) (x % 2 ^ k)
    (λ n. rw (sext_neg k w x n) (omega (arith, mod-lt x (pow_pos k), pow_mono h)))
    (λ p. rw (sext_pos k w x p) (omega (arith, mod-lt x (pow_pos k), pow_mono h)))

-- a number with the sign bit clear is extended by zeros
pub sext_small : (k w x : ℕ) → x < 2 ^ (k - 1) → sext k w x ≡ x
sext_small k w x h =
    let low : x % 2 ^ k ≡ x = mod-eq_of_lt (lt_of_lt_of_le h (pow_mono (sub-le k 1))) in
    sext_pos k w x (rw low h) ∙ low

pub sext-sext : (j k w x : ℕ) → zero < j → j ≤ k → k ≤ w → sext k w (sext j k x) ≡ sext j w x
sext-sext j k w x j0 jk kw =
    by_le (2 ^ (j - 1)) (x % 2 ^ j)
    (λ n.
    let small : x % 2 ^ j + (2 ^ k - 2 ^ j) < 2 ^ k = omega (arith, r, jk') in
    rw (sext_neg j k x n, sext_neg j w x n, sext_neg k w (x % 2 ^ j + (2 ^ k - 2 ^ j)) (rw (mod-eq_of_lt small) (omega (arith, half, pow_half j0, pow_half k0))), mod-eq_of_lt small)
    (omega (arith, jk', pow_mono kw)))
    (λ p.
    let small : x % 2 ^ j < 2 ^ k = omega (arith, r, jk') in
    rw (sext_pos j k x p, sext_pos j w x p, sext_pos k w (x % 2 ^ j) (rw (mod-eq_of_lt small) (omega (arith, half))), mod-eq_of_lt small))
  where
    k0 : zero < k
    k0 = omega arith

    r : x % 2 ^ j < 2 ^ j
    r = mod-lt x (pow_pos j)

    jk' : 2 ^ j ≤ 2 ^ k
    jk' = pow_mono jk

    half : 2 ^ (j - 1) ≤ 2 ^ (k - 1)
    half = pow_mono (omega arith)

-- ---- Addw, Addiw, Subw, Mulw: the 32 low bits of a sum, a difference and a product

pub add_low : (k w x y : ℕ) → k ≤ w → bvadd w x y % 2 ^ k ≡ bvadd k (x % 2 ^ k) (y % 2 ^ k)
unfolding bvadd
add_low k w x y h = mod_low (x + y) h ∙ add-mod x y (2 ^ k)

pub sub_low : (k w x y : ℕ) → k ≤ w → y ≤ 2 ^ w → bvsub w x y % 2 ^ k ≡ bvsub k (x % 2 ^ k) (y % 2 ^ k)
sub_low k w x y h l =
    rw (sub_is w x y, sub_is k (x % 2 ^ k) (y % 2 ^ k))
    (mod_low (x + (2 ^ w - y)) h
    ∙ mod_same _ _ (1 + y / 2 ^ k) (x / 2 ^ k + 2 ^ (w - k)) (2 ^ k)
    (omega (arith, div-add-mod' x (2 ^ k), div-add-mod' y (2 ^ k), pow_sum (w - k) k (sub-add_cancel h), mod-lt y (pow_pos k))))

pub mul_low : (k w x y : ℕ) → k ≤ w → bvmul w x y % 2 ^ k ≡ bvmul k (x % 2 ^ k) (y % 2 ^ k)
unfolding bvmul
mul_low k w x y h = mod_low (x * y) h ∙ mul-mod x y (2 ^ k)

-- ---- the word shifts: Slliw and Sllw, Srliw, Sraiw

pub sllw : (k d n : ℕ) {w : ℕ} (x : ℕ) → n < k → k + d ≡ w → sra w (bvshl w x (n + d)) d ≡ sext k w (x * 2 ^ n % 2 ^ k)
sllw k d n {w} x h e =
    rw (join) (sra_shl_low k d (x * 2 ^ n) (omega arith) e ∙ sym (sext_mod k w (x * 2 ^ n)))
  where
    join : bvshl w x (n + d) ≡ bvshl w (x * 2 ^ n) d
    join = rw (shl_raw {w = w} {n = n + d} x (omega arith), shl_raw {w = w} {n = d} (x * 2 ^ n) (omega arith), pow-add 2 n d, mul_assoc x (2 ^ n) (2 ^ d))

pub srlw : (k d n : ℕ) {w : ℕ} (x : ℕ) → zero < n → n < k → k + d ≡ w → bvlshr w (bvshl w x d) (n + d) ≡ sext k w (x % 2 ^ k / 2 ^ n)
srlw k d n {w} x n0 h e =
    lshr-shl (k - n) n d x (omega arith) refl (omega arith)
    ∙ sym (sext_small k w (x / 2 ^ n % 2 ^ (k - n)) (lt_of_lt_of_le (mod-lt (x / 2 ^ n) (pow_pos (k - n))) (pow_mono (omega arith))))
    ∙ ap (sext k w) (sym (rw (sub-add_cancel (le_of_lt h)) at (field x (k - n) n)))

pub sraw : (k d n : ℕ) {w : ℕ} (x : ℕ) → n < k → k + d ≡ w → sra w (bvshl w x d) (n + d) ≡ sext k w (sra k (x % 2 ^ k) n)
sraw k d n {w} x h e =
    sra-shl (k - n) n d x (omega arith) refl (omega arith)
    ∙ sym (sext-sext (k - n) k w (x / 2 ^ n) (omega arith) (sub-le k n) (omega arith))
    ∙ ap (sext k w) (sym at_k)
  where
    at_k : sra k (x % 2 ^ k) n ≡ sext (k - n) k (x / 2 ^ n)
    at_k = rw (shl_is k 0 {w = k} x (omega arith) (add-zero k), mul-one) at (sra-shl (k - n) n 0 {d = n} {w = k} x (omega arith) (add-zero n) (omega arith))
