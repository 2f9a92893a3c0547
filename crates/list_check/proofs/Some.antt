-- Some place below a bound passes a test: one that does, one more that does not, and tests that agree. Assumes nothing.
use Prim.Native.Nat.{ℕ, zero, suc, ◌+◌, ◌<◌}
use mathlib.Core.Path.{◌≡◌, refl, sym, ◌∙◌, ap, fun_ext}
use Rattle.std.specs.List.{list_any, range_with_len}
use native.Mathlib.Nat.{add-zero, zero-add}
use mathlib.Core.Bool.{Bool, true, false, ◌||◌, or-true, or-false, or_assoc, true≢false}
use mathlib.Core.Logic.{⊎_elim}
use native.Mathlib.Nat.{eq-or-lt_of_le}
use native.Mathlib.Numerals.{add-one}
use native.Mathlib.Omega.{arith}
use Rattle.list_check.specs.Lines.{some}

pub some_hit : (n : ℕ) (test : ℕ → Bool) (i : ℕ) → i < n → test i ≡ true → some n test ≡ true
unfolding some
some_hit zero test i h e = absurd (omega arith)
some_hit (suc n) test i h e =
    ⊎_elim
    (λ (q : i ≡ n). let t : test n ≡ true = rw q at e in rw t (or-true (some n test)))
    (λ (l : i < n). rw (some_hit n test i l e))
    (eq-or-lt_of_le {n = i} {m = n} (omega arith))

pub some_on : (i : ℕ) (test : ℕ → Bool) → some i test ≡ false → test i ≡ false → some (i + 1) test ≡ false
unfolding some
some_on i test none e = rw (add-one, none, e)

pub some_none : (n : ℕ) (test : ℕ → Bool) → some n test ≡ false → (i : ℕ) → i < n → test i ≡ false
unfolding some
some_none n test none i h = go (test i) refl
  where
    go : (t : Bool) → test i ≡ t → test i ≡ false
    go true e = let z : true ≡ false = sym (some_hit n test i h e) ∙ none in absurd (true≢false z)
    go false e = e

pub some_same : (n : ℕ) (f g : ℕ → Bool) → ((p : ℕ) → p < n → f p ≡ g p) → some n f ≡ some n g
unfolding some
some_same zero f g h = refl
some_same (suc n) f g h = rw (some_same n f g (λ p l. h p (omega arith)), h n (omega arith))

-- ---- a call of `any` over the places below a bound

some_first : (n : ℕ) (test : ℕ → Bool) → some (suc n) test ≡ (test 0 || some n (λ i. test (suc i)))
unfolding some
some_first zero test = sym (or-false (test 0))
some_first (suc n) test = ap (λ b. b || test (suc n)) (some_first n test) ∙ or_assoc (test 0) (some n (λ i. test (suc i))) (test (suc n))

any_from : (n from : ℕ) (test : ℕ → Bool) → list_any test (range_with_len from n) ≡ some n (λ i. test (from + i))
unfolding some
any_from zero from test = refl
any_from (suc n) from test =
    rw (any_from n (from + 1) test, some_first n (λ i. test (from + i)), add-zero)
    (ap (λ (f : ℕ → Bool). test from || some n f) (fun_ext (λ i. let e : from + 1 + i ≡ from + suc i = omega arith in ap test e)))

-- where the test is g at each place
pub any_below : (n : ℕ) (test g : ℕ → Bool) → ((p : ℕ) → p < n → test p ≡ g p) → list_any test (range_with_len 0 n) ≡ some n g
any_below n test g h = any_from n 0 test ∙ some_same n (λ i. test (0 + i)) g (λ p l. rw zero-add (h p l))
