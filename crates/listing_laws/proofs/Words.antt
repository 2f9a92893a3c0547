-- Words that begin alike hold the same lines: the view, and what the roles are. Assumes nothing.
use Prim.Native.Nat.{ℕ, ◌+◌, ◌≤◌}
use mathlib.Core.Path.{◌≡◌, refl, sym, ◌∙◌, ap, ap₂}
use mathlib.Core.Bool.{Bool, ◌&&◌}
use mathlib.Core.List.{List, [], ◌∷◌, ◌++◌}
use native.Mathlib.Omega.{arith}
use lib.Dec.{eqb}
use lib.ListN.{length, get_or, length-append, get_or-append}
use Rattle.bitvec.proofs.Base.{by_le}
use Rattle.btor2.specs.declared.NodeRef.{NodeRef}
use Rattle.btor2.specs.Sort.{sort_number}
use Rattle.btor2_list.specs.declared.Looked.{Looked}
use Rattle.btor2_list.specs.Record.{words_for}
use Rattle.btor2_list.specs.Node.{Node, no_node}
use Rattle.btor2_list.specs.View.{view}
use Rattle.btor2_list.specs.Look.{seen, look_at}
use Rattle.btor2_list.proofs.Seen.{look_line, look_past}
use Rattle.state.specs.RolesFit.{value_sort, role_sort, roles_fit}
use Rattle.btor2_list.proofs.View.{view_agree}

module _ (front rest : List ℕ) where
  pub view_front : (n : ℕ) → words_for n ≤ length front → view (front ++ rest) n ≡ view front n
  view_front n h = view_agree (front ++ rest) front n (λ j l. get_or-append front rest 0 j (omega arith))

  module _ (n : ℕ) (h : words_for n ≤ length front) where
    look_front : (p : ℕ) → look_at (front ++ rest) n p ≡ look_at front n p
    look_front p =
        let longer : words_for n ≤ length (front ++ rest) = rw (length-append front rest) (omega arith) in
        by_le n p
        (λ g. look_past (front ++ rest) n longer p g ∙ sym (look_past front n h p g))
        (λ g.
        look_line (front ++ rest) n longer p no_node g
        ∙ ap (λ (v : List Node). seen (get_or v p no_node)) (view_front n h)
        ∙ sym (look_line front n h p no_node g))

    pub roles_front : (i : ℕ) (roles : List NodeRef) → roles_fit (front ++ rest) n i roles ≡ roles_fit front n i roles
    unfolding roles_fit
    roles_front i [] = refl
    roles_front i (r ∷ rs) =
        ap₂ (λ (x : Looked) (b : Bool). eqb (value_sort x) (sort_number (role_sort i)) && b) (look_front r.0) (roles_front (i + 1) rs)
