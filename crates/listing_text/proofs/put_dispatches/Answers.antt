-- The records so far are put. Assumes nothing.
use Rattle.std.proofs.Common.{◌^◌, ◌<◌, length, refl, length-append, arith, rules}
use Rattle.text.proofs.Laws.{then, put_as}
use Rattle.listing_text.specs.Remarks.{dispatches_text}
use Rattle.listing_text.proofs.Records.{next, last, dispatches_more, dispatches_all}
use Rattle.listing_text.proofs.put_dispatches.Goals as goal

pub loop-record-init : goal.loop-record-init
unfolding dispatches_text
loop-record-init c = record { passed = search rules; put = record { list = refl; next = omega arith } }

pub loop-record-preserved : goal.loop-record-preserved
loop-record-preserved c =
    let a = c.args in
    let l = c.loop-record in
    let h = next (omega arith) l.invariant.passed c.in-Some.record c.next.new.self c.in-Some.ensures.steps in
    let small : length a.out.now < 2 ^ 64 = omega arith in
    let text = dispatches_more a.records.now (length l.yielded) c.in-Some.record.now h.there h.at in
    record {
      passed = rw length-append h.passed;
      put = rw length-append (put_as (then small l.invariant.put c.put_dispatch-p.ensures) text);
    }

pub returns : goal.returns
returns c =
    let a = c.args in
    let l = c.loop-record in
    let h = last (omega arith) l.invariant.passed c.next.new.self c.in-None.ensures.steps in
    put_as l.invariant.put (dispatches_all a.records.now (length l.yielded) a.count h.0 h.1)
