-- One role after the other. Assumes nothing.
use Prim.Native.Nat.{ℕ, ◌+◌, ◌≤◌, ◌<◌}
use mathlib.Core.Path.{◌≡◌}
use mathlib.Core.Bool.{true, false}
use mathlib.Core.List.{List, ◌∷◌}
use native.Mathlib.Numerals.{add-one}
use borrow.Author.Tests.{eq-eqb, ne_eqb}
use lib.ListN.{length, drop, drop_of_length-le}
use lib.Seq.{drop-cons}
use Rattle.btor2.specs.declared.NodeRef.{NodeRef}
use Rattle.btor2.specs.Sort.{sort_number}
use Rattle.btor2_list.specs.Look.{look_at}
use Rattle.state.specs.Roles.{role}
use Rattle.state.specs.RolesFit.{value_sort, role_sort, roles_fit}

module _ (ws : List ℕ) (n : ℕ) (roles : List NodeRef) (i : ℕ) where
  rest : i < length roles → drop i roles ≡ role roles i ∷ drop (i + 1) roles
  rest h = rw (add-one, drop-cons roles i (record { 0 = 0 }))

  pub fit_on : i < length roles → value_sort (look_at ws n (role roles i).0) ≡ sort_number (role_sort i)
      → roles_fit ws n (i + 1) (drop (i + 1) roles) ≡ roles_fit ws n i (drop i roles)
  unfolding roles_fit
  fit_on h e = rw (rest h, eq-eqb _ _ e)

  pub fit_not : i < length roles → (value_sort (look_at ws n (role roles i).0) ≡ sort_number (role_sort i) → ⊥) → roles_fit ws n i (drop i roles) ≡ false
  unfolding roles_fit
  fit_not h e = rw (rest h, ne_eqb _ _ e)

  pub fit_end : length roles ≤ i → roles_fit ws n i (drop i roles) ≡ true
  unfolding roles_fit
  fit_end h = rw (drop_of_length-le roles h)
