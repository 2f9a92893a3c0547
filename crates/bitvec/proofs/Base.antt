-- What the laws share: cases, quotients and remainders by their digits, powers, and each operation's value by case. Assumes nothing.
use mathlib.Core.Path.{◌≡◌, sym, ap, ◌∙◌}
use mathlib.Core.Bool.{true, false}
use Prim.Native.Nat.{ℕ, zero, ◌+◌, ◌-◌, ◌*◌, ◌/◌, ◌%◌, ◌^◌, ◌≤◌, ◌<◌}
use native.Mathlib.Nat.{mod-lt, mod-eq_of_lt, div-add-mod', mul-div_cancel, mul-mod_left, add-zero, add-mul-mod_self_right, div-lt_iff_lt-mul, add-mul-div_right}
use native.Mathlib.Decide.{dec_le}
use native.Mathlib.Omega.{arith}
use borrow.Author.Tests.{lt-ltb, le-ltb, le-leb, lt-leb}
use lib.Arith.{digits_div, digits_mod, mod-mul}
use lib.Pow.{pow_pos, pow-add, mod-mod-pow}
use Rattle.bitvec.specs.Smtlib.{bit, bvneg, bvadd, bvsub, negative, bvshl, bvlshr, bvult}
use Rattle.bitvec.specs.TwosComplement.{sext, sra, slt, sltu}

-- ---- cases

pub by_le : {P : Type 0} (a b : ℕ) → (a ≤ b → P) → (b < a → P) → P
by_le {P} a b f g = go (dec_le a b)
  where
    go : Dec (a ≤ b) → P
    go (yes h) = f h
    go (no h) = g (omega arith)

-- by the sign bits of x and y
pub by_signs : {P : Type 0} (w x y : ℕ)
    → (2 ^ (w - 1) ≤ x → 2 ^ (w - 1) ≤ y → P) → (2 ^ (w - 1) ≤ x → y < 2 ^ (w - 1) → P)
    → (x < 2 ^ (w - 1) → 2 ^ (w - 1) ≤ y → P) → (x < 2 ^ (w - 1) → y < 2 ^ (w - 1) → P) → P
by_signs w x y nn np pn pp =
    by_le (2 ^ (w - 1)) x (λ h. by_le (2 ^ (w - 1)) y (nn h) (np h)) (λ h. by_le (2 ^ (w - 1)) y (pn h) (pp h))

-- ---- quotients and remainders, by digits

pub div_is : (q : ℕ) {n m r : ℕ} → n ≡ q * m + r → r < m → n / m ≡ q
div_is q e h = rw e (digits_div q h)

pub mod_is : (q : ℕ) {n m r : ℕ} → n ≡ q * m + r → r < m → n % m ≡ r
mod_is q e h = rw e (digits_mod q h)

-- two numbers that differ by multiples of c
pub mod_same : (n m s t c : ℕ) → n + s * c ≡ m + t * c → n % c ≡ m % c
mod_same n m s t c e = sym (add-mul-mod_self_right n s c) ∙ ap (λ (x : ℕ). x % c) e ∙ add-mul-mod_self_right m t c

pub mul-mod : (x y c : ℕ) → x * y % c ≡ (x % c) * (y % c) % c
mul-mod x y c =
    mod_same _ _ 0 (x / c * y + x % c * (y / c)) c
    (omega (arith, ap (λ (n : ℕ). n * y) (div-add-mod' x c), ap (λ (n : ℕ). x % c * n) (div-add-mod' y c)))

pub mul_mod_mul : (a : ℕ) {m c : ℕ} → zero < m → zero < c → a * c % (m * c) ≡ (a % m) * c
mul_mod_mul a {m} {c} hm hc = rw (mod-mul, mul-div_cancel, mul-mod_left, add-zero)

-- ---- powers

pub pow_sum : (i j : ℕ) {n : ℕ} → i + j ≡ n → 2 ^ n ≡ 2 ^ i * 2 ^ j
pow_sum i j e = rw (← e) (pow-add 2 i j)

-- half of 2 ^ w
pub pow_half : {w : ℕ} → zero < w → 2 ^ w ≡ 2 * 2 ^ (w - 1)
pow_half {w} h = pow_sum 1 (w - 1) (omega arith)

pub mod_low : (n : ℕ) {k w : ℕ} → k ≤ w → n % 2 ^ w % 2 ^ k ≡ n % 2 ^ k
mod_low n {k} {w} h = ap (λ (x : ℕ). n % 2 ^ x % 2 ^ k) (sub_add) ∙ mod-mod-pow n (w - k) k
  where
    sub_add : w ≡ w - k + k
    sub_add = omega arith

-- ---- differences at a width

pub sub_is : (w a b : ℕ) → bvsub w a b ≡ (a + (2 ^ w - b)) % 2 ^ w
unfolding bvsub bvadd bvneg
sub_is w a b = mod_same _ _ ((2 ^ w - b) / 2 ^ w) 0 (2 ^ w) (omega (arith, div-add-mod' (2 ^ w - b) (2 ^ w)))

pub sub_ge : (w : ℕ) {a b : ℕ} → b ≤ a → a < 2 ^ w → bvsub w a b ≡ a - b
sub_ge w {a} {b} h l = sub_is w a b ∙ mod_is 1 (omega arith) (omega arith)

pub sub_lt : (w : ℕ) {a b : ℕ} → a < b → b ≤ 2 ^ w → bvsub w a b ≡ a + (2 ^ w - b)
sub_lt w {a} {b} h l = sub_is w a b ∙ mod-eq_of_lt (omega arith)

-- ---- shifts

pub shr_below : (j n : ℕ) {x w : ℕ} → j + n ≡ w → x < 2 ^ w → x / 2 ^ n < 2 ^ j
shr_below j n e h = (div-lt_iff_lt-mul (pow_pos n)).1 (omega (arith, pow_sum j n e))

pub shr-add : (x j n : ℕ) {m : ℕ} → j + n ≡ m → (x + 2 ^ m) / 2 ^ n ≡ x / 2 ^ n + 2 ^ j
shr-add x j n e = rw (pow_sum j n e) (add-mul-div_right x (2 ^ j) (pow_pos n))

pub shr-pow : (j n : ℕ) {m : ℕ} → j + n ≡ m → 2 ^ m / 2 ^ n ≡ 2 ^ j
shr-pow j n e = rw (pow_sum j n e) (mul-div_cancel (2 ^ j) (pow_pos n))

pub shl_is : (j n : ℕ) {w : ℕ} (a : ℕ) → zero < j → j + n ≡ w → bvshl w a n ≡ (a % 2 ^ j) * 2 ^ n
unfolding bvshl
shl_is j n {w} a h e = rw (lt-ltb n w (omega arith), bvshl) (rw (pow_sum j n e) (mul_mod_mul a (pow_pos j) (pow_pos n)))

pub shl_raw : {w n : ℕ} (a : ℕ) → n < w → bvshl w a n ≡ a * 2 ^ n % 2 ^ w
unfolding bvshl
shl_raw {w} {n} a h = rw (lt-ltb n w h, bvshl)

pub shl_fits : (w a n : ℕ) → bvshl w a n < 2 ^ w
unfolding bvshl
shl_fits w a n = by_le w n (λ h. rw (le-ltb n w h, bvshl) (pow_pos w)) (λ h. rw (lt-ltb n w h, bvshl) (mod-lt (a * 2 ^ n) (pow_pos w)))

pub lshr_is : {w n : ℕ} (a : ℕ) → n < w → bvlshr w a n ≡ a / 2 ^ n
unfolding bvlshr
lshr_is {w} {n} a h = rw (lt-ltb n w h, bvlshr)

pub lshr_past : {w n : ℕ} (a : ℕ) → w ≤ n → bvlshr w a n ≡ 0
unfolding bvlshr
lshr_past {w} {n} a h = rw (le-ltb n w h, bvlshr)

-- ---- signs and tests

pub neg_yes : (w : ℕ) {x : ℕ} → 2 ^ (w - 1) ≤ x → negative w x ≡ true
unfolding negative
neg_yes w {x} h = le-leb (2 ^ (w - 1)) x h

pub neg_no : (w : ℕ) {x : ℕ} → x < 2 ^ (w - 1) → negative w x ≡ false
unfolding negative
neg_no w {x} h = lt-leb (2 ^ (w - 1)) x h

pub ult_yes : {a b : ℕ} → a < b → bvult a b ≡ 1
unfolding bvult bit
ult_yes {a} {b} h = rw (lt-ltb a b h)

pub ult_no : {a b : ℕ} → b ≤ a → bvult a b ≡ 0
unfolding bvult bit
ult_no {a} {b} h = rw (le-ltb a b h)

pub ult_same : {a b c d : ℕ} → (a < b → c < d) → (b ≤ a → d ≤ c) → bvult a b ≡ bvult c d
ult_same {a} {b} f g = by_le b a (λ l. ult_no l ∙ sym (ult_no (g l))) (λ l. ult_yes l ∙ sym (ult_yes (f l)))

pub sext_pos : (k w x : ℕ) → x % 2 ^ k < 2 ^ (k - 1) → sext k w x ≡ x % 2 ^ k
unfolding sext
sext_pos k w x h = rw (neg_no k h, sext)

pub sext_neg : (k w x : ℕ) → 2 ^ (k - 1) ≤ x % 2 ^ k → sext k w x ≡ x % 2 ^ k + (2 ^ w - 2 ^ k)
unfolding sext
sext_neg k w x h = rw (neg_yes k h, sext)

pub sra_pos : (w x n : ℕ) → x < 2 ^ (w - 1) → sra w x n ≡ x / 2 ^ n
unfolding sra
sra_pos w x n h = rw (neg_no w h, sra)

pub sra_neg : (w x n : ℕ) → 2 ^ (w - 1) ≤ x → sra w x n ≡ x / 2 ^ n + (2 ^ w - 2 ^ (w - n))
unfolding sra
sra_neg w x n h = rw (neg_yes w h, sra)

pub slt_pp : (w : ℕ) {x y : ℕ} → x < 2 ^ (w - 1) → y < 2 ^ (w - 1) → slt w x y ≡ bvult x y
unfolding slt sltu bvult
slt_pp w hx hy = rw (neg_no w hx, neg_no w hy, slt)

pub slt_pn : (w : ℕ) {x y : ℕ} → x < 2 ^ (w - 1) → 2 ^ (w - 1) ≤ y → slt w x y ≡ 0
unfolding slt
slt_pn w hx hy = rw (neg_no w hx, neg_yes w hy, slt)

pub slt_np : (w : ℕ) {x y : ℕ} → 2 ^ (w - 1) ≤ x → y < 2 ^ (w - 1) → slt w x y ≡ 1
unfolding slt
slt_np w hx hy = rw (neg_yes w hx, neg_no w hy, slt)

pub slt_nn : (w : ℕ) {x y : ℕ} → 2 ^ (w - 1) ≤ x → 2 ^ (w - 1) ≤ y → slt w x y ≡ bvult x y
unfolding slt sltu bvult
slt_nn w hx hy = rw (neg_yes w hx, neg_yes w hy, slt)
