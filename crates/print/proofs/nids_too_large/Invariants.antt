-- No line before this one has too large an identifier. Assumes nothing.
use mathlib.Core.Path.{◌≡◌}
use mathlib.Core.Bool.{false}
use Rattle.list_check.specs.Lines.{some}
use Rattle.print.specs.Printing.{nid_too_large}
use Rattle.print.proofs.nids_too_large.Given as goal

abbrev pub invariant-loop-i : goal.invariant-loop-i
invariant-loop-i l = some l.i (nid_too_large l.list l.lines) ≡ false
