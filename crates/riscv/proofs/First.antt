-- The first test that holds: it gives its number, and one that does not leaves the next. Assumes nothing.
use Prim.Native.Nat.{ℕ}
use mathlib.Core.Path.{◌≡◌, refl}
use mathlib.Core.Bool.{Bool, true, false}
use mathlib.Core.List.{List, ◌∷◌}
use Rattle.riscv.specs.Refusal.{first}

abbrev pub Tests : Type 0
Tests = List (Bool × ℕ)

pub hit : {t : Bool} (n : ℕ) (ts : Tests) → t ≡ true → n ≡ first ((t, n) ∷ ts)
hit n ts e = rw e

pub miss : {t : Bool} (n : ℕ) {x : ℕ} (ts : Tests) → t ≡ false → x ≡ first ts → x ≡ first ((t, n) ∷ ts)
miss n ts e h = rw e h

-- where the answer is 0, the first does not hold
pub passes : (t : Bool) (n : ℕ) (ts : Tests) → (n ≡ 0 → ⊥) → first ((t, n) ∷ ts) ≡ 0 → (t ≡ false) × (first ts ≡ 0)
passes true n ts h e = absurd (h e)
passes false n ts h e = (refl, e)
