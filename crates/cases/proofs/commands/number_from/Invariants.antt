-- The scan of what is left, with the value so far, is the scan of all. Assumes nothing.
use Rattle.std.proofs.Common.{◌≡◌, ◌≤◌, max, length, drop}
use Rattle.cases.specs.Scan.{scan}
use Rattle.cases.proofs.commands.number_from.Given as goal

abbrev pub invariant-loop-at : goal.invariant-loop-at
invariant-loop-at l = record {
  on : scan l.value l.at (drop l.at l.text) ≡ scan 0 l.from (drop l.from l.text);
  within : l.at ≤ max l.from (length l.text);
}
