-- A role past the last changes nothing. Assumes nothing.
use Rattle.std.proofs.Common.{arith, le-ltb, lt-ltb}
use Rattle.state.specs.Roles.{role_count}
use Rattle.cases.specs.State.{with_role}
use Rattle.cases.proofs.commands.with_role.Goals as goal

pub returns-then-role-lt-ROLES : goal.returns-then-role-lt-ROLES
unfolding with_role
returns-then-role-lt-ROLES c = rw (lt-ltb c.args.role role_count (omega (arith, c.if-role-lt-ROLES.true)))

pub returns-else-role-lt-ROLES : goal.returns-else-role-lt-ROLES
unfolding with_role
returns-else-role-lt-ROLES c = rw (le-ltb c.args.role role_count (omega (arith, c.if-role-lt-ROLES.false)))
