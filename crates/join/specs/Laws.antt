-- What joins leave as it was.
use Rattle.std.specs.Prelude.{◌≡◌}
use Rattle.join.specs.declared.JoinHeld.{JoinHeld}
use Rattle.join.specs.Refusal.{JoinLent, JoinInput, join_refusal}
use Rattle.join.specs.Join.{join_refused, joining}

-- "A refusal returns its number alone; list, areas, edges, roles and output hold what they held"
abbrev pub RefusedJoinLeaves : Type 0
RefusedJoinLeaves = (l : JoinLent) (h : JoinHeld) (g : JoinInput) → (join_refusal l h g ≡ 0 → ⊥) → joining l h g ≡ join_refused (join_refusal l h g) l h g

-- "calls without a flag that write no register or memory flow": no role changes
abbrev pub RolesStay : Type 0
RolesStay = (l : JoinLent) (h : JoinHeld) (g : JoinInput) → (joining l h g).held.state.roles ≡ h.state.roles
