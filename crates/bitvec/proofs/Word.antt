-- The laws at 64 bits, kind by kind: what the builder's lines compute is what the manual says. Assumes nothing.
use mathlib.Core.Path.{◌≡◌, refl, sym, ap, ◌∙◌}
use Prim.Native.Nat.{ℕ, zero, ◌+◌, ◌-◌, ◌*◌, ◌/◌, ◌%◌, ◌^◌, ◌≤◌, ◌<◌}
use native.Mathlib.Nat.{mod-eq_of_lt, le_of_lt}
use native.Mathlib.Omega.{arith}
use lib.Dec.{lit<, lit≤}
use Rattle.bitvec.specs.Smtlib.{bvadd, bvsub, bvmul, bvand, bvsdiv, bvshl, bvlshr, bvult, zero_extend}
use Rattle.bitvec.specs.TwosComplement.{sext, sra, sltu, signed, bits_of, quot}
use Rattle.bitvec.specs.Bytes.{byte_of, load_bytes, store_bytes}
use Rattle.bitvec.proofs.Composed.{sra_lines, load_lines, load_signed_lines, store_lines}
use Rattle.bitvec.proofs.Base.{shl_raw, shl_fits, lshr_is, sext_neg}
use Rattle.bitvec.proofs.Logic.{and_63, and_31, and_7}
use Rattle.bitvec.proofs.Shift.{sra_lines_lem, sext_lines}
use Rattle.bitvec.proofs.Sext.{sext_mod, sext_low, sext_small, add_low, sub_low, mul_low, sllw, srlw, sraw}
use Rattle.bitvec.proofs.Memory.{load_lines_lem, load_signed_lines_lem, store_lines_lem}
use Rattle.bitvec.proofs.Divide.{sdiv_quot, divw, sext-signed}

-- sra (shl x 32) 32, in lines
pub low32 : (x : ℕ) → sra_lines 64 (bvshl 64 x 32) 32 ≡ sext 32 64 x
low32 x = sext_lines 32 32 x (lit< tt) refl

-- Addw, Addiw
pub addw : (x y : ℕ) → sra_lines 64 (bvshl 64 (bvadd 64 x y) 32) 32 ≡ sext 32 64 (bvadd 32 (x % 2 ^ 32) (y % 2 ^ 32))
addw x y = low32 (bvadd 64 x y) ∙ sym (sext_mod 32 64 (bvadd 64 x y)) ∙ ap (sext 32 64) (add_low 32 64 x y (lit≤ tt))

pub subw : (x y : ℕ) → y < 2 ^ 64 → sra_lines 64 (bvshl 64 (bvsub 64 x y) 32) 32 ≡ sext 32 64 (bvsub 32 (x % 2 ^ 32) (y % 2 ^ 32))
subw x y h = low32 (bvsub 64 x y) ∙ sym (sext_mod 32 64 (bvsub 64 x y)) ∙ ap (sext 32 64) (sub_low 32 64 x y (lit≤ tt) (le_of_lt h))

-- the operands are extended first
pub mulw : (x y : ℕ) → sra_lines 64 (bvshl 64 (bvmul 64 (sra_lines 64 (bvshl 64 x 32) 32) (sra_lines 64 (bvshl 64 y 32) 32)) 32) 32 ≡ sext 32 64 (bvmul 32 (x % 2 ^ 32) (y % 2 ^ 32))
mulw x y =
    rw (low32 x, low32 y, low32 (bvmul 64 (sext 32 64 x) (sext 32 64 y)), ← (sext_mod 32 64 (bvmul 64 (sext 32 64 x) (sext 32 64 y))), mul_low 32 64 (sext 32 64 x) (sext 32 64 y) (lit≤ tt), sext_low 32 64 x (lit≤ tt), sext_low 32 64 y (lit≤ tt))

pub slliw : (x n : ℕ) → n < 32 → sra_lines 64 (bvshl 64 x (n + 32)) 32 ≡ sext 32 64 (x * 2 ^ n % 2 ^ 32)
slliw x n h = sra_lines_lem 64 (bvshl 64 x (n + 32)) 32 (shl_fits 64 x (n + 32)) (lit< tt) ∙ sllw 32 32 n x h refl

pub sllw_lines : (x y : ℕ) → sra_lines 64 (bvshl 64 x (bvadd 64 (bvand y 31) 32)) 32 ≡ sext 32 64 (x * 2 ^ (y % 32) % 2 ^ 32)
unfolding bvadd
sllw_lines x y = rw (and_31 y, mod-eq_of_lt {n = y % 32 + 32} {m = 2 ^ 64} (omega arith)) (slliw x (y % 32) (omega arith))

pub srliw : (x n : ℕ) → zero < n → n < 32 → bvlshr 64 (bvshl 64 x 32) (n + 32) ≡ sext 32 64 (x % 2 ^ 32 / 2 ^ n)
srliw x n h l = srlw 32 32 n x h l refl

pub sraiw : (x n : ℕ) → n < 32 → sra_lines 64 (bvshl 64 x 32) (n + 32) ≡ sext 32 64 (sra 32 (x % 2 ^ 32) n)
sraiw x n h = sra_lines_lem 64 (bvshl 64 x 32) (n + 32) (shl_fits 64 x 32) (omega arith) ∙ sraw 32 32 n x h refl

-- Sll, Srl, Sra: the amount is y % 64
pub sll : (x y : ℕ) → bvshl 64 x (bvand y 63) ≡ x * 2 ^ (y % 64) % 2 ^ 64
sll x y = rw (and_63 y) (shl_raw x (omega arith))

pub srl : (x y : ℕ) → bvlshr 64 x (bvand y 63) ≡ x / 2 ^ (y % 64)
srl x y = rw (and_63 y) (lshr_is x (omega arith))

pub sra_y : (x y : ℕ) → x < 2 ^ 64 → sra_lines 64 x (bvand y 63) ≡ sra 64 x (y % 64)
sra_y x y h = rw (and_63 y) (sra_lines_lem 64 x (y % 64) h (omega arith))

-- Sltu, Sltiu: the Bit, extended
pub sltu_lines : (x y : ℕ) → zero_extend (bvult x y) ≡ sltu x y
unfolding zero_extend bvult sltu
sltu_lines x y = refl

-- ---- loads and stores at address a: the offset is a % 8
pub load_at_lem : (c a n : ℕ) → zero < n → a % 8 + n ≤ 8 → load_lines c (bvand a 7) n ≡ load_bytes (byte_of c) (a % 8) n
load_at_lem c a n h l = rw (and_7 a) (load_lines_lem c (a % 8) n h l)

pub load_signed_at : (c a n : ℕ) → zero < n → a % 8 + n ≤ 8 → load_signed_lines c (bvand a 7) n ≡ sext (8 * n) 64 (load_bytes (byte_of c) (a % 8) n)
load_signed_at c a n h l = rw (and_7 a) (load_signed_lines_lem c (a % 8) n h l)

pub store_at_lem : (c a n v : ℕ) → zero < n → a % 8 + n ≤ 8 → c < 2 ^ 64 → store_lines c (bvand a 7) n v ≡ load_bytes (store_bytes (byte_of c) (a % 8) n v) 0 8
store_at_lem c a n v h l hc = rw (and_7 a) (store_lines_lem c (a % 8) n v h l hc)

-- ---- Lui, Auipc: `((imm as i32) << 12) as u64`, a shift at 32 bits, read as signed

pub lui : (imm : ℕ) → imm < 2 ^ 20 → bits_of 64 (signed 32 (bvshl 32 imm 12)) ≡ sext 32 64 (imm * 4096)
lui imm h =
    rw (shl_raw {w = 32} {n = 12} imm (lit< tt)) (sym (sext-signed 32 64 (imm * 4096) (lit< tt) (lit≤ tt)))

-- as a program computes it
pub lui_low : (imm : ℕ) → imm < 2 ^ 19 → sext 32 64 (imm * 4096) ≡ imm * 4096
lui_low imm h = sext_small 32 64 (imm * 4096) (omega arith)

pub lui_high : (imm : ℕ) → 2 ^ 19 ≤ imm → imm < 2 ^ 20 → sext 32 64 (imm * 4096) ≡ imm * 4096 + (2 ^ 64 - 2 ^ 32)
lui_high imm h l = sext_neg 32 64 (imm * 4096) (omega arith) ∙ omega arith

-- ---- Div and Divw, the divisor not zero

pub div : (x y : ℕ) → x < 2 ^ 64 → y < 2 ^ 64 → zero < y → bvsdiv 64 x y ≡ quot 64 x y
div = sdiv_quot 64

pub divw_lines : (x y : ℕ) → zero < y % 2 ^ 32 → ¬ ((x % 2 ^ 32 ≡ 2 ^ 31) × (y % 2 ^ 32 ≡ 2 ^ 32 - 1))
    → bvsdiv 64 (sra_lines 64 (bvshl 64 x 32) 32) (sra_lines 64 (bvshl 64 y 32) 32) ≡ sext 32 64 (quot 32 (x % 2 ^ 32) (y % 2 ^ 32))
divw_lines x y h n = rw (low32 x, low32 y) (divw 32 64 x y (lit< tt) (lit≤ tt) h n)
