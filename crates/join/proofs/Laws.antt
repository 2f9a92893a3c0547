-- A refused join, and the roles. Assumes nothing.
use mathlib.Core.Path.{◌≡◌, refl}
use mathlib.Core.Bool.{Bool, true, false, cond}
use mathlib.Core.List.{List}
use borrow.Author.Tests.{ne_eqb}
use lib.Dec.{eqb}
use Rattle.btor2.specs.declared.NodeRef.{NodeRef}
use Rattle.join.specs.Refusal.{join_refusal}
use Rattle.join.specs.Join.{JoinAnswer, join_settled, joining}
use Rattle.join.specs.Laws.{RefusedJoinLeaves, RolesStay}

pub refused_leaves : RefusedJoinLeaves
unfolding joining
refused_leaves l h g n = rw (ne_eqb (join_refusal l h g) 0 n)

either : (t : Bool) (roles : List NodeRef) (a b : JoinAnswer) → a.held.state.roles ≡ roles → b.held.state.roles ≡ roles → (cond t a b).held.state.roles ≡ roles
either true roles a b p q = p
either false roles a b p q = q

pub roles_stay : RolesStay
unfolding joining join_settled
roles_stay l h g = either (eqb (join_refusal l h g) 0) h.state.roles _ _ refl refl
