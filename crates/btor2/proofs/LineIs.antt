-- A line of a sort. Assumes nothing.
use Prim.Native.Nat.{ℕ}
use mathlib.Core.Bool.{Bool}
use mathlib.Core.List.{List}
use lib.ListN.{get_or}
use Rattle.btor2.specs.declared.NodeType.{NodeType}
use Rattle.btor2.specs.Op.{Op, unknown, carried}
use Rattle.btor2.specs.SortRule.{has_sort}

-- the line at place p is a value line of sort s
unfoldable pub line_is : NodeType → List (Op ℕ) → ℕ → Bool
line_is s xs p = has_sort s (carried (get_or xs p unknown))
