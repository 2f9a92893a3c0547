-- As many lines as were passed have the address; past the words there is none. Assumes nothing.
use Prim.Native.Nat.{◌-◌, ◌≤◌, max}
use mathlib.Core.Path.{◌≡◌}
use Rattle.btor2_list.specs.Record.{address_lines}
use Rattle.btor2_list.proofs.address_lines.Given as goal

abbrev pub invariant-loop-place : goal.invariant-loop-place
invariant-loop-place l = (l.place ≤ max l.from l.end) × (l.list ≡ address_lines l.initial.list l.from (l.place - l.from) l.address)
