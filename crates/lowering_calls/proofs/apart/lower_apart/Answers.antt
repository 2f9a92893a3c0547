-- Refused, all is as it was; else what an accepted call gives. Assumes nothing.
use Rattle.std.proofs.Common.{◌∙◌}
use Rattle.std.proofs.lemmas.Result.{err_from_is_err_and}
use Rattle.lowering.specs.Lowering.{lent_by}
use Rattle.refusals.proofs.Numbered.{numbered}
use Rattle.lowering_calls.proofs.Ready.{refused_is, accepted_is}
use Rattle.lowering_calls.proofs.apart.lower_apart.Goals as goal

pub returns-in_err-weighed-clause-is : goal.returns-in_err-weighed-clause-is
returns-in_err-weighed-clause-is c =
    let a = c.args in
    let p = err_from_is_err_and c.from_residual.result c.from_residual.ensures.1 in
    rw (p.1, p.2)
    (refused_is a.fits (lent_by a.lent.now) a.before.tally a.before.counts a.call.instruction a.call.address a.call.flag a.before.reads _
    (numbered c.in_err-weighed.field-0.0) c.in_err-weighed.ensures.refusal)

pub returns-clause-is : goal.returns-clause-is
returns-clause-is c =
    let a = c.args in
    let weighed = c.in_ok-weighed.ensures in
    rw (weighed.class, weighed.zeros) at c.accept.ensures.is
    ∙ accepted_is a.fits (lent_by a.lent.now) a.before.tally a.before.counts a.call.instruction a.call.address a.call.flag a.before.reads weighed.refusal
