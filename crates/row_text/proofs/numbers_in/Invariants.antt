-- The numbers before this one are put. Assumes nothing.
use Prim.Native.Nat.{◌+◌, ◌*◌, ◌≤◌}
use lib.ListN.{take}
use Rattle.text.specs.Put.{Put}
use Rattle.row_text.specs.Row.{numbers_text}
use Rattle.row_text.proofs.numbers_in.Given as goal

abbrev pub invariant-loop-x : goal.invariant-loop-x
invariant-loop-x l = Put l.initial.out l.at (numbers_text (take l.x-index l.numbers)) l.out l.p × (l.p ≤ l.at + 21 * l.x-index)
