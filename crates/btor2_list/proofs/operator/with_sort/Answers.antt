-- The kinds that have a sort of their own are ruled out. Assumes nothing.
use mathlib.Core.Path.{sym}
use Rattle.std.proofs.Common.{rules}
use Rattle.btor2_list.proofs.Sorted.{no_sorted_kind}
use Rattle.btor2_list.proofs.operator.with_sort.Goals as goal

pub returns-in_default : goal.returns-in_default
returns-in_default c = let a = c.args in sym (no_sorted_kind a.line a.s (search rules))
