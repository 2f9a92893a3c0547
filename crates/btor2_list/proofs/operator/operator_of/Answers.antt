-- The kinds of a fixed sort are ruled out. Assumes nothing.
use mathlib.Core.Path.{sym, ◌∙◌}
use Rattle.std.proofs.Common.{rules}
use Rattle.btor2_list.proofs.Sorted.{not_fixed}
use Rattle.btor2_list.proofs.operator.operator_of.Goals as goal

pub returns-in_default : goal.returns-in_default
returns-in_default c = c.by_sort.ensures ∙ sym (not_fixed c.args.line (search rules))
