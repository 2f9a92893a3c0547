-- The first of the tests, and what they leave room for. Assumes nothing.
use Rattle.std.proofs.Common.{rules, sym, ap, ◌∙◌}
use Rattle.std.proofs.lemmas.Result.{err_from_is_err_and}
use Rattle.lowering.specs.Lowering.{lent_by}
use Rattle.refusals.specs.Refusal.{refused_with}
use Rattle.lowering_calls.proofs.Ready.{counts_refused, roles_refused, record_weighed, ready}
use Rattle.lowering_calls.proofs.apart.refuse.Goals as goal

pub returns-then-counts_out-clause-refusal : goal.returns-then-counts_out-clause-refusal
returns-then-counts_out-clause-refusal c =
    let a = c.args in
    counts_refused a.fits (lent_by a.lent.now) a.before.tally a.before.counts a.call.instruction a.call.address a.call.flag
    (sym (rw c.room_of-room.ensures at c.counts_out.ensures) ∙ c.if-counts_out.true)

pub returns-then-not-fits-clause-refusal : goal.returns-then-not-fits-clause-refusal
returns-then-not-fits-clause-refusal c =
    let a = c.args in
    roles_refused a.fits (lent_by a.lent.now) a.before.tally a.before.counts a.call.instruction a.call.address a.call.flag
    (sym (rw c.room_of-room.ensures at c.counts_out.ensures) ∙ c.if-counts_out.false) c.if-not-fits.true

pub returns-in_err-weighed-clause-refusal : goal.returns-in_err-weighed-clause-refusal
returns-in_err-weighed-clause-refusal c =
    let a = c.args in
    let p = err_from_is_err_and c.from_residual.result c.from_residual.ensures.1 in
    rw (p.1, p.2)
    (sym (ap refused_with c.in_err-weighed.was)
    ∙ rw c.room_of-room.ensures at c.weigh-weighed.ensures.refusal
    ∙ record_weighed a.fits (lent_by a.lent.now) a.before.tally a.before.counts a.call.instruction a.call.address a.call.flag
    (sym (rw c.room_of-room.ensures at c.counts_out.ensures) ∙ c.if-counts_out.false) c.if-not-fits.false)

pub returns-clause-refusal : goal.returns-clause-refusal
returns-clause-refusal c =
    let a = c.args in
    sym (ap refused_with c.in_ok-weighed.was)
    ∙ rw c.room_of-room.ensures at c.weigh-weighed.ensures.refusal
    ∙ record_weighed a.fits (lent_by a.lent.now) a.before.tally a.before.counts a.call.instruction a.call.address a.call.flag
    (sym (rw c.room_of-room.ensures at c.counts_out.ensures) ∙ c.if-counts_out.false) c.if-not-fits.false

pub returns-clause-ready : goal.returns-clause-ready
returns-clause-ready c =
    let a = c.args in
    ready a.fits (lent_by a.lent.now) a.before.tally a.before.counts a.call.instruction a.call.address a.call.flag
    (sym (ap refused_with c.in_ok-weighed.was)
    ∙ rw c.room_of-room.ensures at c.weigh-weighed.ensures.refusal
    ∙ record_weighed a.fits (lent_by a.lent.now) a.before.tally a.before.counts a.call.instruction a.call.address a.call.flag
    (sym (rw c.room_of-room.ensures at c.counts_out.ensures) ∙ c.if-counts_out.false) c.if-not-fits.false)
    c.weigh-weighed.result.needs c.weigh-weighed.ensures.needs (search rules) (search rules) (search rules) (search rules)
