-- What is shown at every number below a bound, one by one, holds at each. Assumes nothing.
use Prim.Native.Nat.{ℕ, zero, suc, ◌<◌}
use mathlib.Core.Path.{subst, sym}
use mathlib.Core.Logic.{⊎_elim}
use native.Mathlib.Nat.{eq-or-lt_of_le}
use native.Mathlib.Omega.{arith}

infixl 20 ◌▹◌
pub data Each (P : ℕ → Type 0) : ℕ → Type 0 where
  none : Each P zero
  ◌▹◌ : {n : ℕ} → Each P n → P n → Each P (suc n)

pub at : {P : ℕ → Type 0} {m : ℕ} → Each P m → (n : ℕ) → n < m → P n
at none n h = absurd (omega arith)
at {P} (◌▹◌ {n = m} e p) n h = ⊎_elim (λ q. subst P (sym q) p) (λ l. at e n l) (eq-or-lt_of_le {n = n} {m = m} (omega arith))
