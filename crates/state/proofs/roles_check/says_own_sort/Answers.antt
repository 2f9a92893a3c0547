-- The kinds that have a sort of their own. Assumes nothing.
use Rattle.std.proofs.Common.{⊎_elim, ◌∙◌}
use Rattle.state.proofs.Sorts.{const_says, ite_says, state_says}
use Rattle.state.proofs.roles_check.says_own_sort.Goals as goal

pub returns-in-1 : goal.returns-in-1
returns-in-1 c l s k e n h own = ⊎_elim (λ is. const_says l s n h (k ∙ is) e) (⊎_elim (λ is. ite_says l s n h (k ∙ is) e) (λ is. state_says l s n h (k ∙ is) e)) c.in-1.is
