-- What a record that was found, or not, says of the words. Assumes nothing.
use Rattle.std.specs.Prelude.{Some, None}
use Prim.Native.Nat.{ℕ}
use mathlib.Core.Path.{◌≡◌, refl}
use mathlib.Core.Bool.{Bool, true, false, cond}
use mathlib.Core.List.{List}
use native.Mathlib.Omega.{arith}
use Rattle.btor2_list.specs.declared.Line.{Line}
use Rattle.btor2_list.specs.Record.{holds, record_at, get_at}

pub found : (ws : List ℕ) (i : ℕ) (l : Line) → get_at ws i ≡ Some l → (holds ws i ≡ true) × (record_at ws i ≡ l)
found ws i l = go (holds ws i)
  where
    go : (t : Bool) → cond t (Some (record_at ws i)) None ≡ Some l → (t ≡ true) × (record_at ws i ≡ l)
    go true e = (refl, cc)
    go false e = let z : ◌≡◌ {A = ℕ} 0 1 = cc in absurd (omega arith)

pub not_found : (ws : List ℕ) (i : ℕ) → get_at ws i ≡ None → holds ws i ≡ false
not_found ws i = go (holds ws i)
  where
    go : (t : Bool) → cond t (Some (record_at ws i)) None ≡ None → t ≡ false
    go true e = let z : ◌≡◌ {A = ℕ} 0 1 = cc in absurd (omega arith)
    go false e = refl
