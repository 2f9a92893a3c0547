-- As many roles as were passed are read. Assumes nothing.
use mathlib.Core.Path.{◌≡◌}
use lib.ListN.{length}
use Rattle.state.specs.Roles.{role_count}
use Rattle.state.specs.Words.{roles_in}
use Rattle.state.proofs.Stored.{front}
use Rattle.state.proofs.roles_in.Given as goal

abbrev pub invariant-loop-k : goal.invariant-loop-k
invariant-loop-k l = (length l.initial.roles ≡ role_count) × (length l.roles ≡ role_count) × (l.roles ≡ front (roles_in l.words) l.initial.roles l.k)
