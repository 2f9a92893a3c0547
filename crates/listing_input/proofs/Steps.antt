-- What one more byte says of a scan of bytes: each lemma is a turn of a loop at index i, or its end. Assumes nothing.
use Rattle.std.specs.Prelude.{Some, None}
use Prim.Native.Nat.{ℕ, suc, ◌+◌, ◌-◌, ◌*◌, ◌%◌, ◌^◌, ◌≤◌, ◌<◌}
use mathlib.Core.Path.{◌≡◌, refl, sym, ap, ◌∙◌}
use mathlib.Core.Bool.{Bool, true, false, cond, not, ◌&&◌}
use mathlib.Core.List.{List, [], ◌∷◌}
use native.Mathlib.Nat.{le_refl, le_of_suc-le-suc, not-suc-le-zero, suc-ne-zero}
use native.Mathlib.Numerals.{add-one}
use native.Mathlib.Omega.{arith}
use lib.Dec.{ltb, eqb}
use lib.Pow.{pow-add}
use lib.ListN.{length, get_or, take, drop, drop_of_length-le}
use lib.Pointwise.{pointwise}
use lib.Seq.{drop-cons}
use borrow.Author.Tests.{eq-eqb, ne_eqb, lt-ltb, le-ltb, ltb-true}
use Rattle.listing_input.specs.Text.{all, digit, decimal, onward, number_below}
use Rattle.listing_input.specs.Line.{negated, immediate}
use Rattle.riscv.specs.Name.{packed}

and_true : (t : Bool) → (t && true) ≡ t
and_true true = refl
and_true false = refl

and_false : (t : Bool) → (t && false) ≡ false
and_false true = refl
and_false false = refl

pub and_right : (a b : Bool) → (a && b) ≡ true → b ≡ true
and_right true b e = e
and_right false b e = let z : ◌≡◌ {A = ℕ} 0 1 = cc in absurd (omega arith)

-- what is left at i begins with the byte at i
pub from : (s : List ℕ) (i : ℕ) → i < length s → drop i s ≡ get_or s i 0 ∷ drop (i + 1) s
from s i h = rw (add-one, drop-cons s i 0)

module _ (s : List ℕ) (i : ℕ) (h : i < length s) where
  pub all_yes : (p : ℕ → Bool) → p (get_or s i 0) ≡ true → all p (drop i s) ≡ all p (drop (i + 1) s)
  unfolding all
  all_yes p e = rw (from s i h, e)

  pub all_no : (p : ℕ → Bool) → p (get_or s i 0) ≡ false → all p (drop i s) ≡ false
  unfolding all
  all_no p e = rw (from s i h, e)

  pub onward_more : (n : ℕ) → onward n (drop i s) ≡ onward (n * 10 + (get_or s i 0 - 48)) (drop (i + 1) s)
  unfolding onward
  onward_more n = rw (from s i h)

module _ (s : List ℕ) (i : ℕ) (h : length s ≤ i) where
  pub all_end : (p : ℕ → Bool) → all p (drop i s) ≡ true
  unfolding all
  all_end p = rw (drop_of_length-le s h)

  pub onward_end : (n : ℕ) → onward n (drop i s) ≡ n
  unfolding onward
  onward_end n = rw (drop_of_length-le s h)

-- ---- numbers

pub no_number : (limit : ℕ) (s : List ℕ) → length s ≡ 0 → None ≡ number_below limit s
unfolding number_below decimal
no_number limit [] h = refl
no_number limit (b ∷ bs) h = absurd (suc-ne-zero (length bs) h)

pub onward_ge : (n : ℕ) (s : List ℕ) → n ≤ onward n s
unfolding onward
onward_ge n [] = le_refl n
onward_ge n (b ∷ bs) = omega (arith, onward_ge (n * 10 + (b - 48)) bs)

-- digits, of which the first is not 0 where there are more
pub decimal_yes : (s : List ℕ) → 0 < length s → (1 < length s → get_or s 0 0 ≡ 48 → ⊥) → all digit s ≡ true → decimal s ≡ true
unfolding decimal all
decimal_yes [] h lead e = absurd (not-suc-le-zero h)
decimal_yes (b ∷ []) h lead e = sym (and_true (digit b)) ∙ e
decimal_yes (b ∷ c ∷ bs) h lead e = rw (ne_eqb b 48 (lead (omega arith)), e)

pub decimal_no : (s : List ℕ) → all digit s ≡ false → decimal s ≡ false
unfolding decimal all
decimal_no [] e = refl
decimal_no (b ∷ []) e = sym (and_true (digit b)) ∙ e
decimal_no (b ∷ c ∷ bs) e = rw e (and_false (not (eqb b 48)))

-- no decimal number below the limit: no digits, a 0 in front, or too large
pub not_digits : (limit : ℕ) (s : List ℕ) → all digit s ≡ false → None ≡ number_below limit s
unfolding number_below
not_digits limit s e = rw (decimal_no s e)

pub lead_zero : (limit : ℕ) (s : List ℕ) → 1 < length s → get_or s 0 0 ≡ 48 → None ≡ number_below limit s
unfolding number_below decimal
lead_zero limit [] h e = refl
lead_zero limit (b ∷ []) h e = absurd (not-suc-le-zero (le_of_suc-le-suc h))
lead_zero limit (b ∷ c ∷ bs) h e = rw (eq-eqb b 48 e)

pub too_large : (limit : ℕ) (s : List ℕ) → limit ≤ onward 0 s → None ≡ number_below limit s
unfolding number_below
too_large limit s h = rw (le-ltb (onward 0 s) limit h, and_false (decimal s))

pub is_number : (limit n : ℕ) (s : List ℕ) → decimal s ≡ true → n ≡ onward 0 s → n < limit → Some n ≡ number_below limit s
unfolding number_below
is_number limit n s d e h = rw (d, ← e, lt-ltb n limit h)

-- ---- immediates

pub imm_plain : (s : List ℕ) → pointwise eqb (take 1 s) (45 ∷ []) ≡ false → number_below (2 ^ 31) s ≡ immediate s
unfolding immediate number_below decimal
imm_plain [] h = refl
imm_plain (b ∷ bs) h = rw (sym (and_true (eqb b 45)) ∙ h)

pub imm_minus : (s digits : List ℕ) → pointwise eqb (take 1 s) (45 ∷ []) ≡ true → digits ≡ drop 1 s → negated (number_below (2 ^ 31 + 1) digits) ≡ immediate s
unfolding immediate
imm_minus [] digits h e = cc
imm_minus (b ∷ bs) digits h e = rw (e, sym (and_true (eqb b 45)) ∙ h)

pub negative_none : None ≡ negated None
unfolding negated
negative_none = refl

pub negative_zero : (n : ℕ) → n ≡ 0 → None ≡ negated (Some n)
unfolding negated
negative_zero n e = rw (eq-eqb n 0 e)

pub negative_some : (n r : ℕ) → n < 2 ^ 64 → r < 2 ^ 64 → (n ≡ 0 → ⊥) → (r + n) % 2 ^ 64 ≡ 0 → Some r ≡ negated (Some n)
unfolding negated
negative_some n r h k z e = rw (ne_eqb n 0 z) (ap Some (omega arith))

pub below : (limit n : ℕ) (s : List ℕ) → Some n ≡ number_below limit s → n < limit
unfolding number_below
below limit n s e = go (decimal s && ltb (onward 0 s) limit) refl e
  where
    go : (t : Bool) → (decimal s && ltb (onward 0 s) limit) ≡ t → Some n ≡ cond t (Some (onward 0 s)) None → n < limit
    go true h q = let is : n ≡ onward 0 s = cc in omega (arith, is, ltb-true (onward 0 s) limit (and_right (decimal s) _ h))
    go false h q = cc

-- ---- words

pub packed_lt : (s : List ℕ) → ((j : ℕ) → get_or s j 0 < 256) → packed s < 2 ^ (8 * length s + 1)
unfolding packed
packed_lt [] h = le_refl 2
packed_lt (b ∷ bs) h = omega (arith, packed_lt bs (λ j. h (suc j)), h 0, pow-add 2 8 (8 * length bs + 1), ap (λ (n : ℕ). 2 ^ n) (w (length bs)))
  where
    w : (n : ℕ) → 8 * suc n + 1 ≡ 8 + (8 * n + 1)
    w n = omega arith
