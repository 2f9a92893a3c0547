-- Division, and the signed reading of bits. Assumes nothing.
use mathlib.Core.Path.{◌≡◌, refl, sym, ap, ◌∙◌}
use Prim.Native.Nat.{ℕ, zero, suc, ◌+◌, ◌-◌, ◌*◌, ◌/◌, ◌%◌, ◌^◌, ◌≤◌, ◌<◌}
use native.Mathlib.Nat.{mod-lt, mod-eq_of_lt, mod_self, zero-mod, sub-zero, div-le_self, lt_of_le_of_lt, div-lt_iff_lt-mul, zero-lt-suc, mul-le-mul_left, le_trans, lt_of_lt_of_le, sub-le, mod-le, div-add-mod', sub-add_cancel}
use native.Mathlib.Omega.{arith}
use borrow.Author.Tests.{ne_eqb}
use lib.IntN.{ℤ, pos, negsuc, neg_ℤ}
use lib.Signed.{mag, quot_z, shr_z, lt_z}
use lib.Pow.{pow_pos, pow_mono}
use Rattle.bitvec.specs.Smtlib.{bit, bvneg, bvudiv, bvurem, bvsdiv, bvult}
use Rattle.bitvec.specs.TwosComplement.{sext, sra, slt, signed, bits_of, quot}
use Rattle.bitvec.proofs.Base.{by_le, by_signs, div_is, pow_sum, pow_half, shr_below, ult_same, neg_yes, neg_no, sext_pos, sext_neg, sra_pos, sra_neg, slt_pp, slt_pn, slt_np, slt_nn}
use Rattle.bitvec.proofs.Sext.{sext_small, sext_low, sext_lt}

-- ---- the operations, by case

pub udiv_is : (w a : ℕ) {b : ℕ} → zero < b → bvudiv w a b ≡ a / b
unfolding bvudiv
udiv_is w a {b} h = rw (ne_eqb b 0 (λ e. omega arith), bvudiv)

pub udiv_zero : (w a : ℕ) → bvudiv w a 0 ≡ 2 ^ w - 1
unfolding bvudiv
udiv_zero w a = refl

pub urem_is : (a : ℕ) {b : ℕ} → zero < b → bvurem a b ≡ a % b
unfolding bvurem
urem_is a {b} h = rw (ne_eqb b 0 (λ e. omega arith), bvurem)

pub urem_zero : (a : ℕ) → bvurem a 0 ≡ a
unfolding bvurem
urem_zero a = refl

neg_is : (w : ℕ) {a : ℕ} → zero < a → bvneg w a ≡ 2 ^ w - a
unfolding bvneg
neg_is w h = mod-eq_of_lt (omega (arith, pow_pos w))

signed_pos : (w : ℕ) {x : ℕ} → x < 2 ^ (w - 1) → signed w x ≡ pos x
unfolding signed
signed_pos w h = rw (neg_no w h, signed)

signed_neg : (w : ℕ) {x : ℕ} → 2 ^ (w - 1) ≤ x → signed w x ≡ negsuc (2 ^ w - suc x)
unfolding signed
signed_neg w h = rw (neg_yes w h, signed)

-- ---- SMT-LIB's signed division is the manual's

bits_neg : (w q : ℕ) → q < 2 ^ w → bits_of w (neg_ℤ (pos q)) ≡ bvneg w q
unfolding bits_of bvneg
bits_neg w zero h = rw (sub-zero (2 ^ w), mod_self, zero-mod)
bits_neg w (suc n) h = rw (mod-eq_of_lt {n = n} {m = 2 ^ w} (omega arith)) (sym (mod-eq_of_lt (omega arith)))

bits_pos : (w : ℕ) {q : ℕ} → q < 2 ^ w → bits_of w (pos q) ≡ q
unfolding bits_of
bits_pos w h = mod-eq_of_lt h

-- what a negative number lacks
neg_suc : (w : ℕ) {a : ℕ} → 2 ^ (w - 1) ≤ a → a < 2 ^ w → bvneg w a ≡ suc (2 ^ w - suc a)
neg_suc w h l = neg_is w (omega (arith, pow_pos (w - 1))) ∙ omega arith

pub sdiv_quot : (w x y : ℕ) → x < 2 ^ w → y < 2 ^ w → zero < y → bvsdiv w x y ≡ quot w x y
unfolding bvsdiv quot
sdiv_quot w x y hx hy y0 =
    by_signs w x y
    (λ nx ny.
    rw (neg_yes w nx, neg_yes w ny, bvsdiv, signed_neg w nx, signed_neg w ny, neg_suc w nx hx, neg_suc w ny hy, udiv_is w (suc (W - suc x)) (zero-lt-suc (W - suc y)))
    (sym (bits_pos w (below (suc (W - suc y)) (less nx)))))
    (λ nx py.
    rw (neg_yes w nx, neg_no w py, bvsdiv, signed_neg w nx, signed_pos w py, neg_suc w nx hx, udiv_is w (suc (W - suc x)) y0)
    (sym (bits_neg w _ (below y (less nx)))))
    (λ px ny.
    rw (neg_no w px, neg_yes w ny, bvsdiv, signed_pos w px, signed_neg w ny, neg_suc w ny hy, udiv_is w x (zero-lt-suc (W - suc y)))
    (sym (bits_neg w _ (below (suc (W - suc y)) hx))))
    (λ px py. rw (neg_no w px, neg_no w py, bvsdiv, signed_pos w px, signed_pos w py, udiv_is w x y0) (sym (bits_pos w (below y hx))))
  where
    W : ℕ
    W = 2 ^ w

    below : {a : ℕ} (b : ℕ) → a < W → a / b < W
    below {a} b h = lt_of_le_of_lt (div-le_self a b) h

    less : 2 ^ (w - 1) ≤ x → suc (W - suc x) < W
    less h = omega (arith, pow_pos (w - 1))

-- by zero: a negative dividend gives 1 (the manual says -1), any other all ones (as the manual says)
pub sdiv_zero_neg : (w : ℕ) {x : ℕ} → zero < w → 2 ^ (w - 1) ≤ x → bvsdiv w x 0 ≡ 1
unfolding bvsdiv
sdiv_zero_neg w h nx =
    rw (neg_yes w nx, neg_no w (pow_pos (w - 1)), bvsdiv, udiv_zero, neg_is w {a = 2 ^ w - 1} (omega (arith, pow_half h, pow_pos (w - 1)))) (omega (arith, pow_pos w))

pub sdiv_zero_pos : (w : ℕ) {x : ℕ} → x < 2 ^ (w - 1) → bvsdiv w x 0 ≡ 2 ^ w - 1
unfolding bvsdiv
sdiv_zero_pos w px = rw (neg_no w px, neg_no w (pow_pos (w - 1)), bvsdiv, udiv_zero)

-- ---- at fewer bits: Divw

-- sign extension keeps the signed number
pub signed-sext : (k w x : ℕ) → zero < k → k ≤ w → signed w (sext k w x) ≡ signed k (x % 2 ^ k)
signed-sext k w x k0 kw =
    by_le (2 ^ (k - 1)) (x % 2 ^ k)
    (λ n.
    rw (sext_neg k w x n, signed_neg k n, signed_neg w {x = x % 2 ^ k + (2 ^ w - 2 ^ k)} (omega (arith, half, pow_half k0, pow_half w0)))
    (ap negsuc (omega (arith, mod-lt x (pow_pos k), pow_mono kw))))
    (λ p. rw (sext_pos k w x p, signed_pos k p, signed_pos w {x = x % 2 ^ k} (omega (arith, half))))
  where
    w0 : zero < w
    w0 = omega arith

    half : 2 ^ (k - 1) ≤ 2 ^ (w - 1)
    half = pow_mono (omega arith)

-- and a signed number that fits k bits has the same bits, extended, at w
pub sext_bits : (k w : ℕ) (z : ℤ) → zero < k → k ≤ w → mag z < 2 ^ (k - 1) → sext k w (bits_of k z) ≡ bits_of w z
unfolding bits_of
sext_bits k w (pos n) k0 kw h = rw (mod-eq_of_lt {n = n} {m = 2 ^ k} l, mod-eq_of_lt {n = n} {m = 2 ^ w} (lt_of_lt_of_le l (pow_mono kw))) (sext_small k w n h)
  where
    l : n < 2 ^ k
    l = lt_of_lt_of_le h (pow_mono (sub-le k 1))
sext_bits k w (negsuc n) k0 kw h =
    rw (mod-eq_of_lt {n = n} {m = 2 ^ k} l, mod-eq_of_lt {n = n} {m = 2 ^ w} (lt_of_lt_of_le l (pow_mono kw)), sext_neg k w (2 ^ k - suc n) (rw v (omega (arith, pow_half k0))), v)
    (omega (arith, l, pow_mono kw))
  where
    l : n < 2 ^ k
    l = lt_of_lt_of_le h (pow_mono (sub-le k 1))

    v : (2 ^ k - suc n) % 2 ^ k ≡ 2 ^ k - suc n
    v = mod-eq_of_lt (omega (arith, pow_pos k))

mag_neg : (q : ℕ) {m : ℕ} → q ≤ m → zero < m → mag (neg_ℤ (pos q)) < m
mag_neg zero h l = l
mag_neg (suc q) h l = h

-- every quotient but the least number's by -1 fits
pub quot_mag : (k x y : ℕ) → zero < k → x < 2 ^ k → y < 2 ^ k → zero < y → ¬ ((x ≡ 2 ^ (k - 1)) × (y ≡ 2 ^ k - 1)) → mag (quot_z (signed k x) (signed k y)) < 2 ^ (k - 1)
quot_mag k x y k0 hx hy y0 no-over =
    by_signs k x y
    (λ nx ny.
    rw (signed_neg k nx, signed_neg k ny)
    ((div-lt_iff_lt-mul (zero-lt-suc (2 ^ k - suc y))).1
    (by_le 1 (2 ^ k - suc y)
    (λ l. omega (arith, pow_half k0, mul-le-mul_left (2 ^ (k - 1)) l))
    (λ l. let other : x ≡ 2 ^ (k - 1) → ⊥ = λ e. no-over (e, omega arith) in omega (arith, pow_half k0, mul-le-mul_left (2 ^ (k - 1)) l)))))
    (λ nx py. rw (signed_neg k nx, signed_pos k py) (mag_neg _ (le_trans (div-le_self (suc (2 ^ k - suc x)) y) (omega (arith, pow_half k0))) (pow_pos (k - 1))))
    (λ px ny. rw (signed_pos k px, signed_neg k ny) (mag_neg _ (le_trans (div-le_self x (suc (2 ^ k - suc y))) (omega arith)) (pow_pos (k - 1))))
    (λ px py. rw (signed_pos k px, signed_pos k py) (lt_of_le_of_lt (div-le_self x y) px))

-- the k low bits of x and y, extended to w and divided there
pub divw : (k w x y : ℕ) → zero < k → k ≤ w → zero < y % 2 ^ k → ¬ ((x % 2 ^ k ≡ 2 ^ (k - 1)) × (y % 2 ^ k ≡ 2 ^ k - 1)) → bvsdiv w (sext k w x) (sext k w y) ≡ sext k w (quot k (x % 2 ^ k) (y % 2 ^ k))
unfolding quot
divw k w x y k0 kw y0 no-over =
    sdiv_quot w (sext k w x) (sext k w y) (sext_lt k w x kw) (sext_lt k w y kw) (lt_of_lt_of_le (rw (← (sext_low k w y kw)) at y0) (mod-le (sext k w y) (2 ^ k)))
    ∙ rw (signed-sext k w x k0 kw, signed-sext k w y k0 kw)
    (sym (sext_bits k w _ k0 kw (quot_mag k (x % 2 ^ k) (y % 2 ^ k) k0 (mod-lt x (pow_pos k)) (mod-lt y (pow_pos k)) y0 no-over)))

-- ---- sext, sra and slt are what they are of signed numbers

pub bits_signed : (w x : ℕ) → x < 2 ^ w → bits_of w (signed w x) ≡ x
unfolding bits_of
bits_signed w x h =
    by_le (2 ^ (w - 1)) x
    (λ n. rw (signed_neg w n, mod-eq_of_lt {n = 2 ^ w - suc x} {m = 2 ^ w} (omega arith)) (omega arith))
    (λ p. rw (signed_pos w p) (mod-eq_of_lt h))

pub sext-signed : (k w x : ℕ) → zero < k → k ≤ w → sext k w x ≡ bits_of w (signed k (x % 2 ^ k))
sext-signed k w x k0 kw = sym (bits_signed w (sext k w x) (sext_lt k w x kw)) ∙ ap (bits_of w) (signed-sext k w x k0 kw)

pub sra-signed : (w x n : ℕ) → n < w → x < 2 ^ w → sra w x n ≡ bits_of w (shr_z (signed w x) (2 ^ n))
unfolding bits_of
sra-signed w x n hn hx =
    by_le (2 ^ (w - 1)) x
    (λ g. rw (sra_neg w x n g, signed_neg w g, comp, mod-eq_of_lt {n = 2 ^ (w - n) - suc (x / 2 ^ n)} {m = 2 ^ w} (omega (arith, q, most))) (omega (arith, q, most)))
    (λ p. rw (sra_pos w x n p, signed_pos w p) (sym (mod-eq_of_lt (lt_of_le_of_lt (div-le_self x (2 ^ n)) hx))))
  where
    e : w - n + n ≡ w
    e = omega arith

    q : x / 2 ^ n < 2 ^ (w - n)
    q = shr_below (w - n) n e hx

    most : 2 ^ (w - n) ≤ 2 ^ w
    most = pow_mono (sub-le w n)

    comp : (2 ^ w - suc x) / 2 ^ n ≡ 2 ^ (w - n) - suc (x / 2 ^ n)
    comp =
        div_is (2 ^ (w - n) - suc (x / 2 ^ n)) {r = 2 ^ n - suc (x % 2 ^ n)}
        (omega (arith, pow_sum (w - n) n e, div-add-mod' x (2 ^ n), mod-lt x (pow_pos n), ap (λ (t : ℕ). t * 2 ^ n) (sub-add_cancel q)))
        (omega (arith, pow_pos n))

pub slt-signed : (w x y : ℕ) → x < 2 ^ w → y < 2 ^ w → slt w x y ≡ bit (lt_z (signed w x) (signed w y))
unfolding bvult bit
slt-signed w x y hx hy =
    by_signs w x y
    (λ nx ny. rw (slt_nn w nx ny, signed_neg w nx, signed_neg w ny) (ult_same {a = x} {b = y} {c = 2 ^ w - suc y} {d = 2 ^ w - suc x} (omega arith) (omega arith)))
    (λ nx py. rw (slt_np w nx py, signed_neg w nx, signed_pos w py))
    (λ px ny. rw (slt_pn w px ny, signed_pos w px, signed_neg w ny))
    (λ px py. rw (slt_pp w px py, signed_pos w px, signed_pos w py))
