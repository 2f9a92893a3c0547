-- The identifiers from this line on break the rule where all do, as long as those before did not. Assumes nothing.
use Prim.Native.Nat.{◌≤◌, ◌<◌}
use mathlib.Core.Path.{◌≡◌}
use lib.ListN.{length, drop}
use Rattle.btor2_list.specs.Record.{capacity}
use Rattle.btor2_list.specs.View.{view}
use Rattle.nid_check.specs.Identifiers.{taken}
use Rattle.nid_check.proofs.Rising.{out_from}
use Rattle.nid_check.proofs.nids_out.Given as goal

abbrev pub invariant-loop-i : goal.invariant-loop-i
invariant-loop-i l = (l.lines ≤ capacity (length l.list)) × (17 < l.next) × (out_from l.next l.last (taken (drop l.i (view l.list l.lines))) ≡ out_from l.next 0 (taken (view l.list l.lines)))
