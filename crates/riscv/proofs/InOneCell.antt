-- A load or a store that stays in one aligned 8-byte word sees and changes that cell alone. Assumes nothing.
use Prim.Native.Nat.{ℕ, zero, suc, ◌+◌, ◌-◌, ◌*◌, ◌%◌, ◌^◌, ◌≤◌, ◌<◌}
use mathlib.Core.Path.{◌≡◌, refl, sym, ap, ap₂, ◌∙◌}
use mathlib.Core.Bool.{Bool, true, false, cond}
use native.Mathlib.Nat.{mod-eq_of_lt, zero-add}
use native.Mathlib.Omega.{arith}
use borrow.Author.Tests.{lt-ltb, le-ltb, le-leb, lt-leb, eq-eqb, eqb-true}
use lib.Dec.{eqb}
use Rattle.bitvec.specs.Bytes.{byte_of, load_bytes, store_bytes}
use Rattle.bitvec.proofs.Base.{by_le}
use Rattle.bitvec.proofs.Memory.{load_whole}
use Rattle.riscv.specs.Manual.{load_at, store_at}
use Rattle.riscv.specs.Memory.{bytes_of, cells_with}

-- bytes that agree from a to a + n load the same number
pub load_agree : (f g : ℕ → ℕ) (a d n : ℕ) → ((k : ℕ) → k < n → f (a + k) ≡ g (d + k)) → load_bytes f a n ≡ load_bytes g d n
unfolding load_bytes
load_agree f g a d zero h = refl
load_agree f g a d (suc n) h =
    ap₂ (λ (x y : ℕ). x * 256 + y)
    (load_agree f g (suc a) (suc d) n (λ k l. let p : suc a + k ≡ a + suc k = omega arith in let q : suc d + k ≡ d + suc k = omega arith in rw (p, q) (h (suc k) (omega arith))))
    (let p : a ≡ a + 0 = omega arith in let q : d ≡ d + 0 = omega arith in ap f p ∙ h 0 (omega arith) ∙ ap g (sym q))

-- ---- a byte after a store

module _ (f : ℕ → ℕ) (a n v i : ℕ) where
  pub store_hit : a ≤ i → i < a + n → store_bytes f a n v i ≡ byte_of v (i - a)
  unfolding store_bytes
  store_hit h l = rw (le-leb a i h, lt-ltb i (a + n) l, store_bytes)

  pub store_above : a + n ≤ i → store_bytes f a n v i ≡ f i
  unfolding store_bytes
  store_above l = rw (le-leb a i (omega arith), le-ltb i (a + n) l, store_bytes)

  pub store_below : i < a → store_bytes f a n v i ≡ f i
  unfolding store_bytes
  store_below h = rw (lt-leb a i h, store_bytes)

-- in the circular address space, at an address i
module _ (memory : ℕ → ℕ) (a n v i : ℕ) (hi : i < 2 ^ 64) where
  at_hit : a ≤ i → i < a + n → store_at memory a n v i ≡ byte_of v (i - a)
  unfolding store_at
  at_hit h l = rw (le-leb a i h) (store_hit _ a n v i h l)

  at_above : a + n ≤ i → store_at memory a n v i ≡ memory i
  unfolding store_at
  at_above l = rw (le-leb a i (omega arith)) (store_above _ a n v i l ∙ ap memory (mod-eq_of_lt hi))

  at_below : i < a → a + n ≤ 2 ^ 64 → store_at memory a n v i ≡ memory i
  unfolding store_at
  at_below h l =
      let around : (i + 2 ^ 64) % 2 ^ 64 ≡ i = omega arith in
      rw (lt-leb a i h) (store_above _ a n v (i + 2 ^ 64) (omega arith) ∙ ap memory around)

-- ---- one cell

module _ (cells : ℕ → ℕ) where
  -- byte o of the cell at b
  byte_in : (b o : ℕ) → b % 8 ≡ 0 → o < 8 → bytes_of cells (b + o) ≡ byte_of (cells b) o
  unfolding bytes_of
  byte_in b o hb ho =
      let e : (b + o) % 8 ≡ o = omega arith in
      let f : b + o - (b + o) % 8 ≡ b = omega arith in
      rw (f, e)

  module _ (a n : ℕ) (small : a < 2 ^ 64) (inside : a % 8 + n ≤ 8) where
    abbrev base : ℕ
    base = a - a % 8

    pub load_in_cell : load_at (bytes_of cells) a n ≡ load_bytes (byte_of (cells base)) (a % 8) n
    unfolding load_at
    load_in_cell =
        load_agree (λ i. bytes_of cells (i % 2 ^ 64)) (byte_of (cells base)) a (a % 8) n
        (λ k l.
        let low : (a + k) % 2 ^ 64 ≡ base + (a % 8 + k) = mod-eq_of_lt {n = a + k} {m = 2 ^ 64} (omega arith) ∙ omega arith in
        ap (bytes_of cells) low ∙ byte_in base (a % 8 + k) (omega arith) (omega arith))

    module _ (v : ℕ) where
      -- byte k of the aligned word at x, after the store
      byte_here : (k : ℕ) → k < 8 → store_at (bytes_of cells) a n v (base + k) ≡ store_bytes (byte_of (cells base)) (a % 8) n v k
      byte_here k hk =
          by_le (a % 8) k
          (λ h. by_le (a % 8 + n) k
          (λ l. at_above (bytes_of cells) a n v (base + k) (omega arith) (omega arith) ∙ same ∙ sym (store_above (byte_of (cells base)) (a % 8) n v k l))
          (λ l.
          let e : base + k - a ≡ k - a % 8 = omega arith in
          at_hit (bytes_of cells) a n v (base + k) (omega arith) (omega arith) (omega arith) ∙ ap (byte_of v) e ∙ sym (store_hit (byte_of (cells base)) (a % 8) n v k h l)))
          (λ h. at_below (bytes_of cells) a n v (base + k) (omega arith) (omega arith) (omega arith) ∙ same ∙ sym (store_below (byte_of (cells base)) (a % 8) n v k h))
        where
          same : bytes_of cells (base + k) ≡ byte_of (cells base) k
          same = byte_in base k (omega arith) hk

      byte_there : (x k : ℕ) → x < 2 ^ 64 → x % 8 ≡ 0 → (x ≡ base → ⊥) → k < 8 → store_at (bytes_of cells) a n v (x + k) ≡ byte_of (cells x) k
      byte_there x k hx h8 other hk =
          by_le a (x + k)
          (λ h. at_above (bytes_of cells) a n v (x + k) (omega arith) (omega arith) ∙ byte_in x k h8 hk)
          (λ h. at_below (bytes_of cells) a n v (x + k) (omega arith) h (omega arith) ∙ byte_in x k h8 hk)

      -- the cell that holds the address changes in its bytes from a mod 8 on, and every other cell is as it was
      pub store_here : cells_with cells (store_at (bytes_of cells) a n v) base ≡ load_bytes (store_bytes (byte_of (cells base)) (a % 8) n v) 0 8
      unfolding cells_with
      store_here = rw (eq-eqb (base % 8) 0 (omega arith)) (load_agree _ _ base 0 8 (λ k h. byte_here k h ∙ ap (store_bytes (byte_of (cells base)) (a % 8) n v) (sym (zero-add k))))

      pub store_there : ((x : ℕ) → cells x < 2 ^ 64) → (x : ℕ) → x < 2 ^ 64 → (x ≡ base → ⊥) → cells_with cells (store_at (bytes_of cells) a n v) x ≡ cells x
      unfolding cells_with
      store_there hc x hx other = go (eqb (x % 8) 0) refl
        where
          go : (t : Bool) → eqb (x % 8) 0 ≡ t → cond t (load_bytes (store_at (bytes_of cells) a n v) x 8) (cells x) ≡ cells x
          go true e =
              load_agree _ _ x 0 8 (λ k h. byte_there x k hx (eqb-true _ _ e) other h ∙ ap (byte_of (cells x)) (sym (zero-add k))) ∙ load_whole (cells x) (hc x)
          go false e = refl
