-- The edges so far are appended. Assumes nothing.
use Prim.Native.Nat.{◌+◌}
use mathlib.Core.Path.{◌≡◌}
use Rattle.lowering_entry.specs.Parts.{edge_at, appended}
use Rattle.lowering_entry.proofs.append_edges.Given as goal

abbrev pub invariant-loop-k : goal.invariant-loop-k
invariant-loop-k l = l.edges ≡ appended l.initial.edges l.count l.k (edge_at l.words l.used) (edge_at l.words (l.used + 1))
