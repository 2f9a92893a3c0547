-- The roles from here on fit where all do, as long as those before did. Assumes nothing.
use mathlib.Core.Path.{◌≡◌}
use lib.ListN.{length, drop}
use Rattle.state.specs.Roles.{role_count}
use Rattle.state.specs.RolesFit.{roles_fit}
use Rattle.state.proofs.roles_check.roles_out.Given as goal

abbrev pub invariant-loop-role : goal.invariant-loop-role
invariant-loop-role l = (length l.roles ≡ role_count) × (roles_fit l.list l.lines l.role (drop l.role l.roles) ≡ roles_fit l.list l.lines 0 l.roles)
