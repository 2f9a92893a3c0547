-- Every operation's result is below 2 ^ w. Assumes nothing.
use Prim.Native.Nat.{ℕ, zero, suc, ◌+◌, ◌-◌, ◌*◌, ◌/◌, ◌^◌, ◌≤◌, ◌<◌}
use mathlib.Core.Bool.{Bool, true, false, ◌&&◌}
use native.Mathlib.Nat.{mod-lt, div-le_self, mod-le, lt_of_le_of_lt, mul-suc}
use native.Mathlib.Omega.{arith}
use lib.Dec.{ltb, leb, eqb, lit<}
use lib.IntN.{ℤ, pos, negsuc}
use lib.Signed.{quot_z}
use lib.Pow.{pow_pos, pow-add, ones_sub-lt, ones_lt}
use lib.Bits.{and_le_l, or_lt}
use Rattle.bitvec.specs.Smtlib.{bvadd, bvsub, bvmul, bvneg, bvnot, bvand, bvudiv, bvurem, bvsdiv, bvlshr, bvult, bvor, bvcomp, bit}
use Rattle.bitvec.specs.TwosComplement.{sext, sra, sltu, slt, signed, bits_of, quot}
use Rattle.bitvec.specs.Bytes.{byte_of, load_bytes, store_bytes}
use Rattle.bitvec.proofs.Composed.{sra_lines}
use Rattle.bitvec.proofs.Base.{by_le, by_signs, neg_yes, neg_no, lshr_is, lshr_past}
use Rattle.bitvec.proofs.Shift.{sra_lines_lem}
use Rattle.bitvec.proofs.Sext.{sext_lt}
use Rattle.bitvec.proofs.Divide.{udiv_is, udiv_zero, urem_is, urem_zero}

pub add_fits : (w a b : ℕ) → bvadd w a b < 2 ^ w
unfolding bvadd
add_fits w a b = mod-lt (a + b) (pow_pos w)

pub sub_fits : (w a b : ℕ) → bvsub w a b < 2 ^ w
unfolding bvsub
sub_fits w a b = add_fits w a (bvneg w b)

pub mul_fits : (w a b : ℕ) → bvmul w a b < 2 ^ w
unfolding bvmul
mul_fits w a b = mod-lt (a * b) (pow_pos w)

pub neg_fits : (w a : ℕ) → bvneg w a < 2 ^ w
unfolding bvneg
neg_fits w a = mod-lt (2 ^ w - a) (pow_pos w)

pub not_fits : (w a : ℕ) → bvnot w a < 2 ^ w
unfolding bvnot
not_fits w a = ones_sub-lt w a

pub and_fits : (w : ℕ) {a : ℕ} (b : ℕ) → a < 2 ^ w → bvand a b < 2 ^ w
unfolding bvand
and_fits w {a} b h = lt_of_le_of_lt (and_le_l a b) h

pub lshr_fits : (w : ℕ) {a : ℕ} (n : ℕ) → a < 2 ^ w → bvlshr w a n < 2 ^ w
lshr_fits w {a} n h = by_le w n (λ l. rw (lshr_past a l) (pow_pos w)) (λ l. rw (lshr_is a l) (lt_of_le_of_lt (div-le_self a (2 ^ n)) h))

pub udiv_fits : (w : ℕ) {a : ℕ} (b : ℕ) → a < 2 ^ w → bvudiv w a b < 2 ^ w
udiv_fits w {a} zero h = rw (udiv_zero w a) (ones_lt w)
udiv_fits w {a} (suc b) h = rw (udiv_is w a {b = suc b} (omega arith)) (lt_of_le_of_lt (div-le_self a (suc b)) h)

pub urem_fits : (w : ℕ) {a : ℕ} (b : ℕ) → a < 2 ^ w → bvurem a b < 2 ^ w
urem_fits w {a} zero h = rw (urem_zero a) h
urem_fits w {a} (suc b) h = rw (urem_is a {b = suc b} (omega arith)) (lt_of_le_of_lt (mod-le a (suc b)) h)

pub sdiv_fits : (w a b : ℕ) → a < 2 ^ w → bvsdiv w a b < 2 ^ w
unfolding bvsdiv
sdiv_fits w a b h =
    by_signs w a b
    (λ na nb. rw (neg_yes w na, neg_yes w nb, bvsdiv) (udiv_fits w (bvneg w b) (neg_fits w a)))
    (λ na pb. rw (neg_yes w na, neg_no w pb, bvsdiv) (neg_fits w (bvudiv w (bvneg w a) b)))
    (λ pa nb. rw (neg_no w pa, neg_yes w nb, bvsdiv) (neg_fits w (bvudiv w a (bvneg w b))))
    (λ pa pb. rw (neg_no w pa, neg_no w pb, bvsdiv) (udiv_fits w b h))

pub sra_fits : (w : ℕ) {x n : ℕ} → x < 2 ^ w → n < w → sra w x n < 2 ^ w
unfolding sra_lines
sra_fits w {x} {n} h l = rw (← (sra_lines_lem w x n h l)) (sub_fits w _ _)

-- of any bytes: a load of n bytes is below 2 ^ (8 n)
pub load_fits : (bytes : ℕ → ℕ) → ((i : ℕ) → bytes i < 256) → (a n : ℕ) → load_bytes bytes a n < 2 ^ (8 * n)
unfolding load_bytes
load_fits bytes h a zero = pow_pos 0
load_fits bytes h a (suc n) = rw (mul-suc 8 n, pow-add 2 (8 * n) 8) (omega (arith, load_fits bytes h (suc a) n, h a))

pub byte_fits : (v i : ℕ) → byte_of v i < 256
unfolding byte_of
byte_fits v i = mod-lt (v / 2 ^ (8 * i)) (lit< tt)

pub store_fits : (bytes : ℕ → ℕ) → ((i : ℕ) → bytes i < 256) → (a n v i : ℕ) → store_bytes bytes a n v i < 256
unfolding store_bytes
store_fits bytes h a n v i = go (leb a i && ltb i (a + n))
  where
    go : (t : Bool) → elim t as (λ _. ℕ) [ true ↦ byte_of v (i - a) | false ↦ bytes i ] < 256
    go true = byte_fits v (i - a)
    go false = h i

pub sext_fits : (k w x : ℕ) → k ≤ w → sext k w x < 2 ^ w
sext_fits = sext_lt

pub or_fits : (w a b : ℕ) → a < 2 ^ w → b < 2 ^ w → bvor a b < 2 ^ w
unfolding bvor
or_fits = or_lt

bit_fits : (b : Bool) → bit b < 2
unfolding bit
bit_fits true = lit< tt
bit_fits false = lit< tt

pub comp_fits : (a b : ℕ) → bvcomp a b < 2
unfolding bvcomp
comp_fits a b = bit_fits (eqb a b)

pub ult_fits : (a b : ℕ) → bvult a b < 2
unfolding bvult
ult_fits a b = bit_fits (ltb a b)

pub sltu_fits : (x y : ℕ) → sltu x y < 2
unfolding sltu
sltu_fits x y = bit_fits (ltb x y)

pub slt_fits : (w x y : ℕ) → slt w x y < 2
unfolding slt
slt_fits w x y =
    by_signs w x y
    (λ nx ny. rw (neg_yes w nx, neg_yes w ny, slt) (sltu_fits x y))
    (λ nx py. rw (neg_yes w nx, neg_no w py, slt) (lit< tt))
    (λ px ny. rw (neg_no w px, neg_yes w ny, slt) (lit< tt))
    (λ px py. rw (neg_no w px, neg_no w py, slt) (sltu_fits x y))

pub bits_fits : (w : ℕ) (z : ℤ) → bits_of w z < 2 ^ w
unfolding bits_of
bits_fits w (pos n) = mod-lt n (pow_pos w)
bits_fits w (negsuc n) = omega (arith, pow_pos w)

pub quot_fits : (w x y : ℕ) → quot w x y < 2 ^ w
unfolding quot
quot_fits w x y = bits_fits w (quot_z (signed w x) (signed w y))
