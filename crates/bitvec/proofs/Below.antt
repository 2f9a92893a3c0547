-- A test that antt computes at every number below a bound holds of each, and a table of a function's values gives them. Assumes nothing.
use Prim.Native.Nat.{ℕ, zero, suc, ◌+◌, ◌-◌, ◌≤◌, ◌<◌}
use mathlib.Core.Bool.{Bool, true, false, ◌&&◌, not}
use mathlib.Core.Path.{◌≡◌, subst, sym, ap, ◌∙◌}
use mathlib.Core.List.{List, [], ◌∷◌}
use mathlib.Core.Logic.{⊎_elim}
use native.Mathlib.Nat.{eq-or-lt_of_le}
use native.Mathlib.Omega.{arith}
use borrow.Author.Tests.{lt-ltb, le-ltb, le-leb, lt-leb}
use lib.Dec.{T, eqb, ltb, leb, eqb→eq}
use lib.ListN.{get_or}
use Rattle.bitvec.proofs.Base.{by_le}

abbrev pub all_below : ℕ → (ℕ → Bool) → Bool
all_below zero test = true
all_below (suc n) test = test n && all_below n test

pub left : (a b : Bool) → T (a && b) → T a
left true b h = tt
left false b h = h

pub right : (a b : Bool) → T (a && b) → T b
right true b h = h
right false b h = absurd h

pub at : (m : ℕ) (test : ℕ → Bool) → T (all_below m test) → (n : ℕ) → n < m → T (test n)
at zero test h n l = absurd (omega arith)
at (suc m) test h n l =
    ⊎_elim
    (λ e. subst (λ (k : ℕ). T (test k)) (sym e) (left (test m) (all_below m test) h))
    (λ k. at m test (right (test m) (all_below m test) h) n k)
    (eq-or-lt_of_le {n = n} {m = m} (omega arith))

-- the n values of f from i on
abbrev pub tabulate : (ℕ → ℕ) → ℕ → ℕ → List ℕ
tabulate f i zero = []
tabulate f i (suc n) = f i ∷ tabulate f (suc i) n

tabulated_from : (f : ℕ → ℕ) (i n k d : ℕ) → k < n → get_or (tabulate f i n) k d ≡ f (i + k)
tabulated_from f i zero k d h = absurd (omega arith)
tabulated_from f i (suc n) zero d h = ap f (let e : i ≡ i + zero = omega arith in e)
tabulated_from f i (suc n) (suc k) d h = tabulated_from f (suc i) n k d (omega arith) ∙ ap f (let e : suc i + k ≡ i + suc k = omega arith in e)

-- a literal table converts to this where it holds the values of f
pub tabulated : (f : ℕ → ℕ) (n k d : ℕ) → k < n → get_or (tabulate f 0 n) k d ≡ f k
tabulated f n k d h = tabulated_from f 0 n k d h ∙ ap f (let e : 0 + k ≡ k = omega arith in e)

pub below_not : (a b : ℕ) → ltb a b ≡ not (leb b a)
below_not a b = by_le b a (λ h. rw (le-ltb a b h, le-leb b a h)) (λ h. rw (lt-ltb a b h, lt-leb b a h))

-- ---- a function that has one value over a range, which a test computes where values are told by their numbers

module _ {A : Type 0} (number_of : A → ℕ) (of_number : ℕ → A) (back : (a : A) → of_number (number_of a) ≡ a) (f : ℕ → A) where
  -- it has the value a at the n numbers from this one on
  abbrev pub is_each : ℕ → ℕ → A → Bool
  is_each from n a = all_below n (λ k. eqb (number_of a) (number_of (f (from + k))))

  pub each : (from n : ℕ) (a : A) → T (is_each from n a) → (k : ℕ) → from ≤ k → k < from + n → a ≡ f k
  each from n a t k l h =
      let here : from + (k - from) ≡ k = omega arith in
      let same : number_of a ≡ number_of (f (from + (k - from))) = eqb→eq _ _ (at n (λ j. eqb (number_of a) (number_of (f (from + j)))) t (k - from) (omega arith)) in
      sym (back a) ∙ ap of_number same ∙ back (f (from + (k - from))) ∙ ap f here
