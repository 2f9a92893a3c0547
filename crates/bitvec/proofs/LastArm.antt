-- What the last arm of a match on a number knows: the number is none of the other arms'. Assumes nothing.
use Prim.Native.Nat.{ℕ, zero, suc, ◌+◌, ◌≤◌}
use mathlib.Core.Path.{◌≡◌, refl}
use mathlib.Core.Bool.{Bool, true, false, ◌||◌}
use mathlib.Core.List.{List, [], ◌∷◌}
use native.Mathlib.Omega.{arith}
use borrow.Author.Tests.{ne_eqb, eqb-true}
use lib.Dec.{T, eqb}

-- ---- arms for the n numbers from `first` on

abbrev pub NoneFrom : ℕ → ℕ → ℕ → Type 0
NoneFrom first zero x = Unit {0}
NoneFrom first (suc n) x = NoneFrom first n x × ¬ (x ≡ first + n)

pub past : (first n x : ℕ) → NoneFrom first n x → first ≤ x → first + n ≤ x
past first zero x none h = omega arith
past first (suc n) x none h = further (past first n x none.0 h) none.1
  where
    further : first + n ≤ x → ¬ (x ≡ first + n) → first + suc n ≤ x
    further l ne = omega arith

-- ---- arms for these numbers, the last one first

abbrev pub NoneOf : List ℕ → ℕ → Type 0
NoneOf [] x = Unit {0}
NoneOf (n ∷ ns) x = NoneOf ns x × ¬ (x ≡ n)

abbrev pub among : ℕ → List ℕ → Bool
among n [] = false
among n (m ∷ ms) = eqb n m || among n ms

pub differs : (ns : List ℕ) (x : ℕ) → NoneOf ns x → (n : ℕ) → T (among n ns) → eqb x n ≡ false
differs [] x none n h = absurd h
differs (m ∷ ms) x none n h = go (eqb n m) refl h (λ g. differs ms x none.0 n g)
  where
    go : (t : Bool) → eqb n m ≡ t → T (t || among n ms) → (T (among n ms) → eqb x n ≡ false) → eqb x n ≡ false
    go true e g others = rw (eqb-true n m e) (ne_eqb x m none.1)
    go false e g others = others g
