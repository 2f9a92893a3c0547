-- Laws of text put into an output: a piece after a piece is one piece, and a numeral gains a digit. Assumes nothing.
use Prim.Native.Nat.{ℕ, zero, suc, ◌+◌, ◌-◌, ◌/◌, ◌%◌, ◌^◌, min, ◌≤◌, ◌<◌}
use native.Mathlib.Nat.{add-zero, add-suc, suc-add, min-eq_left}
use native.Mathlib.Decide.{dec_le}
use native.Mathlib.Omega.{arith}
use mathlib.Core.Path.{◌≡◌, refl, sym, ap, ◌∙◌}
use mathlib.Core.Bool.{Bool, true, false, cond}
use mathlib.Core.List.{List, [], ◌∷◌, ◌++◌}
use lib.Dec.{ltb}
use lib.ListN.{length, take, drop, length-append}
use lib.Seq.{sets, sets-eq, length-sets, set_out}
use borrow.Author.Tests.{lt-ltb, le-ltb}
use Rattle.text.specs.Numeral.{glyph, numeral, decimal_text, hex_text}
use Rattle.text.specs.Put.{Put}
use Rattle.text.specs.BadName.{bad_name}

-- ---- runs of stores

pub sets-append : (s t l : List ℕ) (i : ℕ) → sets (sets l i s) (i + length s) t ≡ sets l i (s ++ t)
sets-append [] t l i = rw add-zero
sets-append (a ∷ s) t l i = rw (add-suc i (length s), ← suc-add i (length s)) (sets-append s t _ (suc i))

-- past the end nothing is stored
pub sets_out : (s l : List ℕ) (i : ℕ) → length l ≤ i → sets l i s ≡ l
sets_out [] l i h = refl
sets_out (a ∷ s) l i h = rw (set_out l i a h) (sets_out s l (suc i) (omega arith))

-- so a place that is capped past the end does as well as the one that it stands for
sets_capped : (t l : List ℕ) (n : ℕ) → length l < 2 ^ 64 → sets l (min n (2 ^ 64 - 1)) t ≡ sets l n t
sets_capped t l n h = go (dec_le n (2 ^ 64 - 1))
  where
    go : Dec (n ≤ 2 ^ 64 - 1) → sets l (min n (2 ^ 64 - 1)) t ≡ sets l n t
    go (yes k) = rw (min-eq_left k)
    go (no k) = sets_out t l _ (omega arith) ∙ sym (sets_out t l n (omega arith))

-- ---- pieces

pub then : {l l₁ l₂ : List ℕ} {at p r : ℕ} {s t : List ℕ} → length l < 2 ^ 64 → Put l at s l₁ p → Put l₁ p t l₂ r → Put l at (s ++ t) l₂ r
then {l} {l₁} {l₂} {at} {p} {r} {s} {t} h u v = record {
  list = v.list ∙ rw (u.list, u.next) (sets_capped t (sets l at s) (at + length s) (rw length-sets h) ∙ sets-append s t l at);
  next = omega (arith, u.next, v.next, length-append s t);
}

-- the same piece under another name
pub put_as : {l l' : List ℕ} {at r : ℕ} {s t : List ℕ} → Put l at s l' r → s ≡ t → Put l at t l' r
put_as {l} {l'} {at} {r} {s} {t} u e = record { list = u.list ∙ ap (sets l at) e; next = omega (arith, u.next, ap length e) }

-- a text that is empty is put by doing nothing
pub nothing : {l t : List ℕ} {at : ℕ} → at < 2 ^ 64 → t ≡ [] → Put l at t l at
nothing h e = put_as {s = []} (record { list = refl; next = omega arith }) (sym e)

pub put_length : {l l' : List ℕ} {at r : ℕ} {s : List ℕ} → Put l at s l' r → length l' ≡ length l
put_length u = ap length u.list ∙ simp length-sets

pub put_is : {l l' : List ℕ} {at r : ℕ} {s : List ℕ} → Put l at s l' r → at + length s ≤ length l → l' ≡ take at l ++ s ++ drop (at + length s) l
put_is {l} {l'} {at} {r} {s} u h = u.list ∙ sets-eq s l at h

-- ---- numerals of at most k digits

pub numeral_one : (b k x d : ℕ) → (k ≡ 0 → ⊥) → x < b → d ≡ glyph (x % b) → d ∷ [] ≡ numeral b k x
unfolding numeral
numeral_one b zero x d n h e = absurd (n refl)
numeral_one b (suc k) x d n h e = rw (lt-ltb x b, e)

pub numeral_more : (b k x d : ℕ) → (k ≡ 0 → ⊥) → b ≤ x → d ≡ glyph (x % b) → numeral b (k - 1) (x / b) ++ (d ∷ []) ≡ numeral b k x
unfolding numeral
numeral_more b zero x d n h e = absurd (n refl)
numeral_more b (suc k) x d n h e = let m : suc k - 1 ≡ k = omega arith in rw (m, le-ltb x b, e)

either_le : (test : Bool) (s t : List ℕ) (k : ℕ) → length s ≤ k → length t ≤ k → length (cond test s t) ≤ k
either_le true s t k h h' = h
either_le false s t k h h' = h'

pub numeral-length : (b k x : ℕ) → length (numeral b k x) ≤ k
unfolding numeral
numeral-length b zero x = omega arith
numeral-length b (suc k) x =
    simp length-append (omega (arith, either_le (ltb x b) [] (numeral b k (x / b)) k (omega arith) (numeral-length b k (x / b))))

pub bad_name_length : (address : ℕ) → length (bad_name address) ≤ 33
unfolding bad_name
bad_name_length address = omega (arith, numeral-length 16 16 address)

-- ---- worked values

decimal_4096 : decimal_text 4096 ≡ 52 ∷ 48 ∷ 57 ∷ 54 ∷ []
unfolding numeral
decimal_4096 = refl

hex_65536 : hex_text 65536 ≡ 49 ∷ 48 ∷ 48 ∷ 48 ∷ 48 ∷ []
unfolding numeral
hex_65536 = refl

-- 18446744073709551615, all 20 digits, and 16 times `f`
decimal_largest : decimal_text (2 ^ 64 - 1) ≡ 49 ∷ 56 ∷ 52 ∷ 52 ∷ 54 ∷ 55 ∷ 52 ∷ 52 ∷ 48 ∷ 55 ∷ 51 ∷ 55 ∷ 48 ∷ 57 ∷ 53 ∷ 53 ∷ 49 ∷ 54 ∷ 49 ∷ 53 ∷ []
unfolding numeral
decimal_largest = refl

hex_largest : hex_text (2 ^ 64 - 1) ≡ 102 ∷ 102 ∷ 102 ∷ 102 ∷ 102 ∷ 102 ∷ 102 ∷ 102 ∷ 102 ∷ 102 ∷ 102 ∷ 102 ∷ 102 ∷ 102 ∷ 102 ∷ 102 ∷ []
unfolding numeral
hex_largest = refl

-- `unimplemented-pc-10000`
bad_name_65536 : bad_name 65536 ≡ 117 ∷ 110 ∷ 105 ∷ 109 ∷ 112 ∷ 108 ∷ 101 ∷ 109 ∷ 101 ∷ 110 ∷ 116 ∷ 101 ∷ 100 ∷ 45 ∷ 112 ∷ 99 ∷ 45 ∷ 49 ∷ 48 ∷ 48 ∷ 48 ∷ 48 ∷ []
unfolding bad_name numeral
bad_name_65536 = refl
