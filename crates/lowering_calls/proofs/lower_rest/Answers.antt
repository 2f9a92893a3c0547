-- What is left to do from here gives what all calls give. Assumes nothing.
use Prim.Native.Nat.{◌+◌, ◌/◌, ◌-◌, ◌*◌}
use mathlib.Core.Path.{refl, sym, ap, ◌∙◌}
use native.Mathlib.Omega.{arith}
use lib.ListN.{length, drop}
use Rattle.btor2_list.proofs.Records.{records_next}
use Rattle.lowering.specs.Lowering.{lent_by}
use Rattle.lowering.specs.All.{call_words, call_in, calls_in}
use Rattle.lowering.proofs.SameLists.{same_lent, same_then}
use Rattle.refusals.proofs.Numbered.{numbered}
use Rattle.lowering_calls.specs.Known.{words_on}
use Rattle.lowering_calls.proofs.Steps.{from_none, ends, stops, goes_on}
use Rattle.lowering_calls.proofs.lower_rest.Goals as goal

pub loop-done-init : goal.loop-done-init
loop-done-init c = record { rest = from_none c.args.fits (lent_by c.args.lent.now) c.args.state.now c.args.calls.now; same = same_lent c.args.lent.now }

pub returns-in-Err-clause-is : goal.returns-in-Err-clause-is
returns-in-Err-clause-is c =
    let a = c.args in
    let left = calls_in (length a.calls.now / 7 - (c.loop-done.done + 1)) (drop ((c.loop-done.done + 1) * 7) a.calls.now) in
    stops a.fits (lent_by c.loop-done.lent) c.loop-done.state (call_in (drop (c.loop-done.done * 7) a.calls.now)) _ (rw c.call_at-call.ensures at c.in-Err.ensures.is) c.loop-done.done left (numbered c.in-Err.refusal)
    ∙ ap (words_on a.fits c.loop-done.done (lent_by c.loop-done.lent) c.loop-done.state) (sym (records_next call_words call_in (length a.calls.now / 7) c.loop-done.done a.calls.now (omega arith)))
    ∙ c.loop-done.invariant.rest

pub loop-done-preserved : goal.loop-done-preserved
loop-done-preserved c =
    let a = c.args in
    let left = calls_in (length a.calls.now / 7 - (c.loop-done.done + 1)) (drop ((c.loop-done.done + 1) * 7) a.calls.now) in
    record {
      rest = goes_on a.fits (lent_by c.loop-done.lent) c.loop-done.state (call_in (drop (c.loop-done.done * 7) a.calls.now)) _ (rw c.call_at-call.ensures at c.in_default.ensures.is) c.loop-done.done left refl
          ∙ ap (words_on a.fits c.loop-done.done (lent_by c.loop-done.lent) c.loop-done.state) (sym (records_next call_words call_in (length a.calls.now / 7) c.loop-done.done a.calls.now (omega arith)))
          ∙ c.loop-done.invariant.rest;
      same = same_then c.loop-done.invariant.same c.lower_known.ensures.same;
    }

pub returns-clause-is : goal.returns-clause-is
returns-clause-is c =
    let a = c.args in
    ends a.fits (length a.calls.now / 7) c.loop-done.done (lent_by c.loop-done.lent) c.loop-done.state (drop (c.loop-done.done * 7) a.calls.now) (omega arith)
    ∙ c.loop-done.invariant.rest
