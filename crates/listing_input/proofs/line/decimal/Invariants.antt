-- The rest carries the number on to the value of all, and is of digits just where all is. Assumes nothing.
use Rattle.std.proofs.Common.{◌≡◌, drop}
use Rattle.listing_input.specs.Text.{all, digit, onward}
use Rattle.listing_input.proofs.line.decimal.Given as goal

abbrev pub invariant-loop-b : goal.invariant-loop-b
invariant-loop-b l = record {
  value : onward l.n (drop l.b-index l.s) ≡ onward 0 l.s;
  digits : all digit (drop l.b-index l.s) ≡ all digit l.s;
}
