-- A State, whose sort is known. Assumes nothing.
use Rattle.list_check.proofs.ByKind.{second, a_state}
use Rattle.list_check.proofs.unformed_by_kind.Goals as goal

pub returns-else-no_sort-3 : goal.returns-else-no_sort-3
returns-else-no_sort-3 c = second _ _ _ _ _ c.if-no_sort-3.false c.no_sort-in-19.ensures c.state_out.ensures (a_state _ _ _ _ c.in-19.is)
