-- Loads and stores of n bytes at offset o of a word of 8. Assumes nothing.
use mathlib.Core.Path.{◌≡◌, sym, ap, ◌∙◌, fun_ext}
use Prim.Native.Nat.{ℕ, zero, suc, ◌+◌, ◌-◌, ◌*◌, ◌/◌, ◌%◌, ◌^◌, ◌≤◌, ◌<◌}
use native.Mathlib.Nat.{mod-one, div-one, mul-suc, mul-add, div-lt_iff_lt-mul, mod-lt, mod-mod, mod-eq_of_lt, add-zero, sub-add_cancel, lt_of_lt_of_le, lt_of_le_of_lt}
use native.Mathlib.Omega.{arith}
use borrow.Author.Tests.{lt-ltb, le-ltb, le-leb, lt-leb}
use lib.Pow.{pow_pos, pow_mono, mod-pow-add, shr-shr, field, high, low, ones_lt, split, shr_mod}
use lib.Bits.{bit_and, and_block, and_mask, and_high, and_lt, and_le_l, or_block, or_shifted_r}
use Rattle.bitvec.specs.Smtlib.{bvsub, bvmul, bvnot, bvand, bvshl}
use Rattle.bitvec.specs.TwosComplement.{sext}
use Rattle.bitvec.specs.Bytes.{byte_of, load_bytes, store_bytes}
use Rattle.bitvec.proofs.Composed.{or_lines, load_lines, load_signed_lines, mask, store_lines}
use Rattle.bitvec.proofs.Base.{by_le, mod_low, pow_sum, sub_ge, shl_is, shl_fits, shr_below}
use Rattle.bitvec.proofs.Logic.{or_lines_lem}
use Rattle.bitvec.proofs.Shift.{lshr-shl, sra-shl, sra_lines_lem}
use Rattle.bitvec.proofs.Sext.{sext_mod}

-- ---- loads

-- the bytes' value is a field of bits
pub load_is : (c o n : ℕ) → load_bytes (byte_of c) o n ≡ c / 2 ^ (8 * o) % 2 ^ (8 * n)
unfolding load_bytes byte_of
load_is c o zero = sym (mod-one (c / 2 ^ (8 * o)))
load_is c o (suc n) =
    rw (load_is c (suc o) n, byte_of, mul-suc 8 o, mul-suc 8 n, ← (shr-shr c (8 * o) 8), mod-pow-add (c / 2 ^ (8 * o)) (8 * n) 8)

-- a word is its eight bytes
pub load_whole : (c : ℕ) → c < 2 ^ 64 → load_bytes (byte_of c) 0 8 ≡ c
load_whole c h = load_is c 0 8 ∙ rw div-one (mod-eq_of_lt h)

-- and a load sees no more of the bytes than what each is
pub load_same : {f g : ℕ → ℕ} (a n : ℕ) → ((i : ℕ) → f i ≡ g i) → load_bytes f a n ≡ load_bytes g a n
load_same a n e = ap (λ (f : ℕ → ℕ). load_bytes f a n) (fun_ext e)

mul_8 : {o : ℕ} → o ≤ 8 → bvmul 64 8 o ≡ 8 * o
unfolding bvmul
mul_8 h = mod-eq_of_lt (omega arith)

amount : (o n : ℕ) → o + n ≤ 8 → bvsub 64 (64 - 8 * n) (bvmul 64 8 o) ≡ 64 - 8 * n - 8 * o
amount o n h = rw (mul_8 {o = o} (omega arith)) (sub_ge 64 (omega arith) (omega arith))

pub load_lines_lem : (c o n : ℕ) → zero < n → o + n ≤ 8 → load_lines c o n ≡ load_bytes (byte_of c) o n
unfolding load_lines
load_lines_lem c o n h l =
    rw (amount o n l, load_is c o n) (lshr-shl (8 * n) (8 * o) (64 - 8 * n - 8 * o) c (omega arith) (omega arith) (omega arith))

pub load_signed_lines_lem : (c o n : ℕ) → zero < n → o + n ≤ 8 → load_signed_lines c o n ≡ sext (8 * n) 64 (load_bytes (byte_of c) o n)
unfolding load_signed_lines
load_signed_lines_lem c o n h l =
    rw (amount o n l, load_is c o n, sext_mod, sra_lines_lem 64 (bvshl 64 c s) (64 - 8 * n) (shl_fits 64 c s) (omega arith))
    (sra-shl (8 * n) (8 * o) s c (omega arith) (omega arith) (omega arith))
  where
    s : ℕ
    s = 64 - 8 * n - 8 * o

-- ---- stores

-- c, with its k bits from bit e on replaced by the k low bits of v
unfoldable pub put : ℕ → ℕ → ℕ → ℕ → ℕ
put k e c v = (c / 2 ^ (e + k) * 2 ^ k + v % 2 ^ k) * 2 ^ e + c % 2 ^ e

and_shl : (a b e : ℕ) → bit_and (a * 2 ^ e) (b * 2 ^ e) ≡ bit_and a b * 2 ^ e
and_shl a b e = simp add-zero at (and_block e a b 0 0 (pow_pos e) (pow_pos e))

-- all ones but K - 1 times E
not_ones : (P K E : ℕ) → K ≤ P → zero < K → zero < E → P * E - 1 - (K - 1) * E ≡ (P - K) * E + (E - 1)
not_ones P K E h hk he = omega (arith, ap (λ (x : ℕ). x * E) (sub-add_cancel h), ap (λ (x : ℕ). x * E) (sub-add_cancel hk))

module _ (k e : ℕ) {w : ℕ} (c v : ℕ) (k0 : zero < k) (fits : e + k ≤ w) (hc : c < 2 ^ w) where
  m_is : bvshl w (2 ^ k - 1) e ≡ (2 ^ k - 1) * 2 ^ e
  m_is = shl_is (w - e) e (2 ^ k - 1) (omega arith) (omega arith) ∙ ap (λ (x : ℕ). x * 2 ^ e) (mod-eq_of_lt (lt_of_lt_of_le (ones_lt k) (pow_mono (omega arith))))

  value : bvand (bvshl w v e) (bvshl w (2 ^ k - 1) e) ≡ (v % 2 ^ k) * 2 ^ e
  unfolding bvand
  value =
      rw (m_is, shl_is (w - e) e {w = w} v (omega arith) (omega arith), and_shl, and_mask (v % 2 ^ (w - e)) k, mod_low v {k = k} {w = w - e} (omega arith))

  not_m : bvnot w (bvshl w (2 ^ k - 1) e) ≡ (2 ^ (w - e - k + k) - 2 ^ k) * 2 ^ e + (2 ^ e - 1)
  unfolding bvnot
  not_m = rw (m_is, pow_sum (w - e - k + k) e {n = w} (omega arith)) (not_ones (2 ^ (w - e - k + k)) (2 ^ k) (2 ^ e) (pow_mono (omega arith)) (pow_pos k) (pow_pos e))

  keep : bvand c (bvnot w (bvshl w (2 ^ k - 1) e)) ≡ (c / 2 ^ (e + k) * 2 ^ k) * 2 ^ e + c % 2 ^ e
  unfolding bvand
  keep =
      rw (not_m)
      (ap (λ (x : ℕ). bit_and x ((2 ^ (w - e - k + k) - 2 ^ k) * 2 ^ e + (2 ^ e - 1))) (sym (split c e))
      ∙ and_block e (c / 2 ^ e) (2 ^ (w - e - k + k) - 2 ^ k) (c % 2 ^ e) (2 ^ e - 1) (mod-lt c (pow_pos e)) (ones_lt e)
      ∙ rw (and_mask (c % 2 ^ e) e, mod-mod, and_high (c / 2 ^ e) (w - e - k) k, shr_mod {n = c / 2 ^ e} (w - e - k) k (shr_below (w - e - k + k) e (omega arith) hc), shr-shr c e k))

  pub put_lines : or_lines w (bvand (bvshl w v e) (bvshl w (2 ^ k - 1) e)) (bvand c (bvnot w (bvshl w (2 ^ k - 1) e))) ≡ put k e c v
  unfolding put bvand
  put_lines =
      or_lines_lem w _ _ (and_lt w (bvshl w v e) (bvshl w (2 ^ k - 1) e) (shl_fits w v e) (shl_fits w (2 ^ k - 1) e)) (lt_of_le_of_lt (and_le_l c (bvnot w (bvshl w (2 ^ k - 1) e))) hc)
      ∙ rw (value, keep)
      ((rw add-zero at (or_block e (v % 2 ^ k) (c / 2 ^ (e + k) * 2 ^ k) 0 (c % 2 ^ e) (pow_pos e) (mod-lt c (pow_pos e))))
      ∙ rw (or_shifted_r (c / 2 ^ (e + k)) k (v % 2 ^ k) (mod-lt v (pow_pos k))))

-- ---- the three parts of what is put, and byte by byte

module _ (k e c v : ℕ) where
  pub put_low : put k e c v % 2 ^ e ≡ c % 2 ^ e
  unfolding put
  put_low = low (c / 2 ^ (e + k) * 2 ^ k + v % 2 ^ k) e (mod-lt c (pow_pos e))

  above : put k e c v / 2 ^ e ≡ c / 2 ^ (e + k) * 2 ^ k + v % 2 ^ k
  unfolding put
  above = high (c / 2 ^ (e + k) * 2 ^ k + v % 2 ^ k) e (mod-lt c (pow_pos e))

  pub put_mid : put k e c v / 2 ^ e % 2 ^ k ≡ v % 2 ^ k
  put_mid = rw above (low (c / 2 ^ (e + k)) k (mod-lt v (pow_pos k)))

  pub put_high : put k e c v / 2 ^ (e + k) ≡ c / 2 ^ (e + k)
  put_high = sym (shr-shr (put k e c v) e k) ∙ rw above (high (c / 2 ^ (e + k)) k (mod-lt v (pow_pos k)))

  pub put_lt : (w : ℕ) → e + k ≤ w → c < 2 ^ w → put k e c v < 2 ^ w
  put_lt w h l = rw (whole) ((div-lt_iff_lt-mul (pow_pos (e + k))).0 (rw put_high (shr_below (w - (e + k)) (e + k) (sub-add_cancel h) l)))
    where
      whole : 2 ^ w ≡ 2 ^ (w - (e + k)) * 2 ^ (e + k)
      whole = pow_sum (w - (e + k)) (e + k) (sub-add_cancel h)

-- the field of t bits from i on, of two numbers that agree below m
pub same_field : (a b i t m : ℕ) → i + t ≤ m → a % 2 ^ m ≡ b % 2 ^ m → a / 2 ^ i % 2 ^ t ≡ b / 2 ^ i % 2 ^ t
same_field a b i t m h e = sym (field a t i) ∙ ap (λ (x : ℕ). x / 2 ^ i) cut ∙ field b t i
  where
    cut : a % 2 ^ (t + i) ≡ b % 2 ^ (t + i)
    cut = sym (mod_low a {k = t + i} {w = m} (omega arith)) ∙ ap (λ (x : ℕ). x % 2 ^ (t + i)) e ∙ mod_low b {k = t + i} {w = m} (omega arith)

-- byte i is byte i - o of what lies above byte o
byte_above : (c : ℕ) {o i : ℕ} → o ≤ i → byte_of c i ≡ byte_of (c / 2 ^ (8 * o)) (i - o)
unfolding byte_of
byte_above c {o} {i} h = rw (shr-shr c (8 * o) (8 * (i - o)), sums)
  where
    sums : 8 * o + 8 * (i - o) ≡ 8 * i
    sums = omega arith

module _ (c o n v : ℕ) where
  -- the word once its n bytes from byte o on are the n low bytes of v
  abbrev stored : ℕ
  stored = put (8 * n) (8 * o) c v

  below : (i : ℕ) → i < o → byte_of stored i ≡ byte_of c i
  unfolding byte_of
  below i h = same_field stored c (8 * i) 8 (8 * o) (omega arith) (put_low (8 * n) (8 * o) c v)

  inside : (i : ℕ) → o ≤ i → i < o + n → byte_of stored i ≡ byte_of v (i - o)
  unfolding byte_of
  inside i h l = byte_above stored h ∙ same_field (stored / 2 ^ (8 * o)) v (8 * (i - o)) 8 (8 * n) (omega arith) (put_mid (8 * n) (8 * o) c v)

  above_it : (i : ℕ) → o + n ≤ i → byte_of stored i ≡ byte_of c i
  above_it i h = byte_above stored h ∙ ap (λ (x : ℕ). byte_of x (i - (o + n))) tops ∙ sym (byte_above c h)
    where
      tops : stored / 2 ^ (8 * (o + n)) ≡ c / 2 ^ (8 * (o + n))
      tops = rw (mul-add 8 o n) (put_high (8 * n) (8 * o) c v)

  pub store_byte : (i : ℕ) → byte_of stored i ≡ store_bytes (byte_of c) o n v i
  unfolding store_bytes
  store_byte i =
      by_le o i
      (λ h. by_le (o + n) i
      (λ l. rw (le-leb o i h, le-ltb i (o + n) l, store_bytes) (above_it i l))
      (λ l. rw (le-leb o i h, lt-ltb i (o + n) l, store_bytes) (inside i h l)))
      (λ h. rw (lt-leb o i h, store_bytes) (below i h))

  -- the builder's lines store byte by byte
  pub store_lines_lem : zero < n → o + n ≤ 8 → c < 2 ^ 64 → store_lines c o n v ≡ load_bytes (store_bytes (byte_of c) o n v) 0 8
  unfolding store_lines mask
  store_lines_lem h l hc =
      rw (mul_8 {o = o} (omega arith)) (put_lines (8 * n) (8 * o) {w = 64} c v (omega arith) (omega arith) hc)
      ∙ sym (load_whole stored (put_lt (8 * n) (8 * o) c v 64 (omega arith) hc)) ∙ load_same 0 8 store_byte
