-- What is left to do from here gives what all calls give. Assumes nothing.
use Prim.Native.Nat.{◌/◌, ◌-◌, ◌*◌}
use mathlib.Core.Path.{◌≡◌}
use lib.ListN.{length, drop}
use Rattle.lowering.specs.Lowering.{lent_by, SameLent}
use Rattle.lowering.specs.All.{calls_in}
use Rattle.lowering_calls.specs.Known.{words_on, words_all}
use Rattle.lowering_calls.proofs.lower_rest.Given as goal

abbrev pub invariant-loop-done : goal.invariant-loop-done
invariant-loop-done l = record {
  rest : words_on l.fits l.done (lent_by l.lent) l.state (calls_in (length l.calls / 7 - l.done) (drop (l.done * 7) l.calls)) ≡ words_all l.fits (lent_by l.initial.lent) l.initial.state l.calls;
  same : SameLent l.initial.lent l.lent;
}
