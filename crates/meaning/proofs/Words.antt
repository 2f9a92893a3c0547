-- What the lines of a kind compute on words and memory, in the manual's terms. Assumes nothing.
use Prim.Native.Nat.{ℕ, zero, ◌+◌, ◌-◌, ◌*◌, ◌/◌, ◌%◌, ◌^◌, ◌≤◌, ◌<◌}
use native.Mathlib.Nat.{mod-eq_of_lt, mod-mod}
use native.Mathlib.Decide.{ℕ_discrete}
use native.Mathlib.Omega.{arith}
use mathlib.Core.Path.{◌≡◌, refl, sym, ◌∙◌, ap}
use mathlib.Core.Bool.{Bool, true, false, cond}
use lib.Dec.{eqb, ltb, lit≤}
use lib.Bits.{bit_and}
use borrow.Author.Tests.{eqb-true, eqb-false, eq-eqb, ne_eqb, lt-ltb, le-ltb}
use Rattle.bitvec.specs.Smtlib.{bit, bvand, bvadd, bvsub, bvudiv, bvurem, bvshl, bvlshr, bvcomp}
use Rattle.bitvec.specs.Smtlib as Smt
use Rattle.bitvec.specs.TwosComplement.{sext, sra}
use Rattle.bitvec.specs.Bytes.{byte_of, load_bytes, store_bytes}
use Rattle.bitvec.proofs.Base.{by_le, mod_low, sub_is, shl_raw, lshr_is}
use Rattle.bitvec.proofs.Composed.{sra_lines, load_lines, load_signed_lines, store_lines}
use Rattle.bitvec.proofs.Logic.{and_word}
use Rattle.bitvec.proofs.Sext.{sext_mod}
use Rattle.bitvec.proofs.Memory.{load_whole}
use Rattle.bitvec.proofs.Word as Word
use Rattle.btor2.specs.Value.{store}
use Rattle.riscv.specs.Constant as Constant
use Rattle.riscv.specs.Manual.{load_at, store_at}
use Rattle.riscv.specs.Memory.{bytes_of, cells_with}
use Rattle.riscv.proofs.InOneCell.{load_agree, load_in_cell, store_hit, store_here, store_there}

-- a number that is not 0 by its test
pub positive : (n : ℕ) → eqb n 0 ≡ false → zero < n
positive n e = let f : ¬ (n ≡ 0) = eqb-false n 0 e in omega arith

-- ---- constants

pub upper_is : (imm : ℕ) → imm < 2 ^ 20 → Constant.upper imm ≡ sext 32 64 (imm * 2 ^ 12)
unfolding Constant.upper
upper_is imm h =
    let e : imm % 2 ^ 20 ≡ imm = mod-eq_of_lt h in
    rw e
    (by_le (2 ^ 19) imm
    (λ l. rw (le-ltb imm (2 ^ 19) l) (sym (Word.lui_high imm l h)))
    (λ l. rw (lt-ltb imm (2 ^ 19) l) (sym (Word.lui_low imm l))))

pub upper_fits : (imm : ℕ) → Constant.upper imm < 2 ^ 64
unfolding Constant.upper
upper_fits imm = go (ltb (imm % 2 ^ 20) (2 ^ 19))
  where
    go : (t : Bool) → cond t (imm % 2 ^ 20 * 2 ^ 12) (imm % 2 ^ 20 * 2 ^ 12 + (2 ^ 64 - 2 ^ 32)) < 2 ^ 64
    go true = omega arith
    go false = omega arith

-- ---- one operator

pub and_is : (x y : ℕ) → bvand x y ≡ bit_and x y
unfolding bvand
and_is x y = refl

pub add_is : (x y : ℕ) → bvadd 64 x y ≡ (x + y) % 2 ^ 64
unfolding bvadd
add_is x y = refl

pub zero_plus : (x imm : ℕ) → imm < 2 ^ 64 → x ≡ 0 → imm ≡ (x + imm) % 2 ^ 64
zero_plus x imm h e = omega arith

-- ---- the low 32 bits, sign-extended

-- two numbers that are the same at 64 bits
low_bits : (a b : ℕ) → a % 2 ^ 64 ≡ b % 2 ^ 64 → sext 32 64 a ≡ sext 32 64 b
low_bits a b e =
    sym (sext_mod 32 64 a) ∙ ap (sext 32 64) (sym (mod_low a {k = 32} {w = 64} (lit≤ tt)) ∙ ap (λ (x : ℕ). x % 2 ^ 32) e ∙ mod_low b {k = 32} {w = 64} (lit≤ tt)) ∙ sext_mod 32 64 b

pub add_word : (x y : ℕ) → sra_lines 64 (bvshl 64 (bvadd 64 x y) 32) 32 ≡ sext 32 64 (x + y)
unfolding bvadd
add_word x y = Word.low32 (bvadd 64 x y) ∙ low_bits (bvadd 64 x y) (x + y) (mod-mod (x + y) (2 ^ 64))

pub sub_word : (x y : ℕ) → sra_lines 64 (bvshl 64 (bvsub 64 x y) 32) 32 ≡ sext 32 64 (x + (2 ^ 64 - y))
sub_word x y =
    Word.low32 (bvsub 64 x y) ∙ ap (sext 32 64) (sub_is 64 x y)
    ∙ low_bits ((x + (2 ^ 64 - y)) % 2 ^ 64) (x + (2 ^ 64 - y)) (mod-mod (x + (2 ^ 64 - y)) (2 ^ 64))

-- ---- shifts by a constant

pub slli : (x n : ℕ) → n < 64 → bvshl 64 x n ≡ x * 2 ^ (n % 64) % 2 ^ 64
slli x n h = let e : n % 64 ≡ n = mod-eq_of_lt h in rw e (shl_raw x h)

pub srli : (x n : ℕ) → n < 64 → bvlshr 64 x n ≡ x / 2 ^ (n % 64)
srli x n h = let e : n % 64 ≡ n = mod-eq_of_lt h in rw e (lshr_is x h)

pub slliw : (x n : ℕ) → n < 32 → sra_lines 64 (bvshl 64 x ((n + 32) % 2 ^ 64)) 32 ≡ sext 32 64 (x * 2 ^ (n % 32))
slliw x n h =
    let e : n % 32 ≡ n = mod-eq_of_lt h in
    let f : (n + 32) % 2 ^ 64 ≡ n + 32 = mod-eq_of_lt (omega arith) in
    rw (e, f) (Word.slliw x n h ∙ sext_mod 32 64 (x * 2 ^ n))

pub srliw : (x n : ℕ) → zero < n → n < 32 → bvlshr 64 (bvshl 64 x 32) ((n + 32) % 2 ^ 64) ≡ sext 32 64 (x % 2 ^ 32 / 2 ^ (n % 32))
srliw x n l h =
    let e : n % 32 ≡ n = mod-eq_of_lt h in
    let f : (n + 32) % 2 ^ 64 ≡ n + 32 = mod-eq_of_lt (omega arith) in
    rw (e, f) (Word.srliw x n l h)

pub sraiw : (x n : ℕ) → n % 64 < 32 → sra_lines 64 (bvshl 64 x 32) (n % 64 + 32) ≡ sext 32 64 (sra 32 (x % 2 ^ 32) (n % 32))
sraiw x n h = let e : n % 32 ≡ n % 64 = omega arith in rw e (Word.sraiw x (n % 64) h)

pub sllw : (x y : ℕ) → sra_lines 64 (bvshl 64 x (bvadd 64 (bvand y 31) 32)) 32 ≡ sext 32 64 (x * 2 ^ (y % 32))
sllw x y = Word.sllw_lines x y ∙ sext_mod 32 64 (x * 2 ^ (y % 32))

-- ---- division

pub divu : (x y : ℕ) → bvudiv 64 x y ≡ cond (eqb y 0) (2 ^ 64 - 1) (x / y)
unfolding bvudiv
divu x y = go (eqb y 0)
  where
    go : (t : Bool) → elim t as (λ _. ℕ) [ true ↦ 2 ^ 64 - 1 | false ↦ x / y ] ≡ cond t (2 ^ 64 - 1) (x / y)
    go true = refl
    go false = refl

pub remu : (x y : ℕ) → bvurem x y ≡ cond (eqb y 0) x (x % y)
unfolding bvurem
remu x y = go (eqb y 0)
  where
    go : (t : Bool) → elim t as (λ _. ℕ) [ true ↦ x | false ↦ x % y ] ≡ cond t x (x % y)
    go true = refl
    go false = refl

-- ---- the address: with imm 0 it is the register's node

abbrev pub address_of : Bool → ℕ → ℕ → ℕ
address_of true x imm = x
address_of false x imm = bvadd 64 x imm

pub address_is : (z : Bool) (x imm : ℕ) → eqb imm 0 ≡ z → x < 2 ^ 64 → address_of z x imm ≡ (x + imm) % 2 ^ 64
unfolding bvadd
address_is true x imm e h = omega (arith, eqb-true imm 0 e)
address_is false x imm e h = refl

-- ---- loads and stores in one cell

module _ (cells : ℕ → ℕ) (a n : ℕ) (small : a < 2 ^ 64) (inside : a % 8 + n ≤ 8) where
  cell : bvand a (2 ^ 64 - 8) ≡ a - a % 8
  cell = and_word a small

  pub load_zero : zero < n → load_lines (cells (bvand a (2 ^ 64 - 8))) (bvand a 7) n ≡ load_at (bytes_of cells) a n
  load_zero h = rw cell (Word.load_at_lem (cells (a - a % 8)) a n h inside ∙ sym (load_in_cell cells a n small inside))

  pub load_sign : zero < n → load_signed_lines (cells (bvand a (2 ^ 64 - 8))) (bvand a 7) n ≡ sext (8 * n) 64 (load_at (bytes_of cells) a n)
  load_sign h = rw cell (Word.load_signed_at (cells (a - a % 8)) a n h inside ∙ ap (sext (8 * n) 64) (sym (load_in_cell cells a n small inside)))

  module _ (fits : (x : ℕ) → cells x < 2 ^ 64) (v x : ℕ) (hx : x < 2 ^ 64) where
    -- a write of what the cell is after the store
    written : (w : ℕ) → w ≡ load_bytes (store_bytes (byte_of (cells (a - a % 8))) (a % 8) n v) 0 8
        → store cells (a - a % 8) w x ≡ cells_with cells (store_at (bytes_of cells) a n v) x
    unfolding Smt.ite bvcomp bit
    written w e = go (ℕ_discrete x (a - a % 8))
      where
        go : Dec (x ≡ a - a % 8) → store cells (a - a % 8) w x ≡ cells_with cells (store_at (bytes_of cells) a n v) x
        go (yes q) = rw (q, eq-eqb (a - a % 8) (a - a % 8) refl, Smt.ite) (e ∙ sym (store_here cells a n small inside v))
        go (no q) = rw (ne_eqb x (a - a % 8) q, Smt.ite) (sym (store_there cells a n small inside v fits x hx q))

    pub store_part : zero < n
        → store cells (bvand a (2 ^ 64 - 8)) (store_lines (cells (bvand a (2 ^ 64 - 8))) (bvand a 7) n v) x ≡ cells_with cells (store_at (bytes_of cells) a n v) x
    store_part h = rw cell (written _ (Word.store_at_lem (cells (a - a % 8)) a n v h inside (fits (a - a % 8))))

-- the whole cell
module _ (cells : ℕ → ℕ) (a : ℕ) (small : a < 2 ^ 64) (inside : a % 8 + 8 ≤ 8) (fits : (x : ℕ) → cells x < 2 ^ 64) where
  here : a - a % 8 ≡ a
  here = omega arith

  pub load_whole_cell : cells a ≡ load_at (bytes_of cells) a 8
  load_whole_cell =
      let e : a % 8 ≡ 0 = omega arith in
      sym (load_whole (cells a) (fits a)) ∙ sym (load_in_cell cells a 8 small inside ∙ rw (here, e) refl)

  pub store_whole_cell : (v x : ℕ) → v < 2 ^ 64 → x < 2 ^ 64 → store cells a v x ≡ cells_with cells (store_at (bytes_of cells) a 8 v) x
  store_whole_cell v x hv hx =
      rw here at (written cells a 8 small inside fits v x hx v
      (let e : a % 8 ≡ 0 = omega arith in
      rw e (sym (load_agree _ (byte_of v) 0 0 8 (λ k h. store_hit _ 0 8 v (0 + k) (omega arith) (omega arith) ∙ ap (byte_of v) (let q : 0 + k - 0 ≡ 0 + k = omega arith in q)) ∙ load_whole v hv))))
