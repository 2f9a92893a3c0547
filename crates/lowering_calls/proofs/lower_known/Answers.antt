-- Refused, nothing is written; else what the call gives is put into the words. Assumes nothing.
use mathlib.Core.Path.{refl, ap, ◌∙◌}
use borrow.Author.Tests.{lt-ltb}
use Rattle.std.proofs.lemmas.Result.{err_from_is_err_and}
use Rattle.state.specs.Words.{state_words}
use Rattle.lowering.specs.Lowering.{lent_by}
use Rattle.lowering.specs.Words.{given}
use Rattle.refusals.proofs.Numbered.{numbered}
use Rattle.lowering_calls.specs.Known.{known_words}
use Rattle.lowering_calls.proofs.Joins.{not_written, written}
use Rattle.lowering_calls.proofs.lower_known.Goals as goal

pub returns-then-state-lt-STATE_WORDS-clause-is : goal.returns-then-state-lt-STATE_WORDS-clause-is
unfolding known_words
returns-then-state-lt-STATE_WORDS-clause-is c = rw (lt-ltb _ state_words c.if-state-lt-STATE_WORDS.true)

pub returns-in_err-apart-clause-is : goal.returns-in_err-apart-clause-is
returns-in_err-apart-clause-is c =
    let a = c.args in
    let p = err_from_is_err_and c.from_residual.result c.from_residual.ensures.1 in
    rw (p.1, p.2)
    (not_written a.fits (lent_by a.lent.now) a.state.now a.call.instruction a.call.address a.call.flag c.if-state-lt-STATE_WORDS.false c.tally_in.ensures c.counts_in.ensures c.reads_in.ensures
    c.in_err-apart.ensures.is (numbered c.in_err-apart.field-0.0))

pub returns-clause-is : goal.returns-clause-is
returns-clause-is c =
    let a = c.args in
    ap (given 0 (lent_by c.lower_apart.new.lent)) c.put_state.ensures
    ∙ written a.fits (lent_by a.lent.now) a.state.now a.call.instruction a.call.address a.call.flag c.if-state-lt-STATE_WORDS.false c.tally_in.ensures c.counts_in.ensures c.reads_in.ensures
    c.in_ok-apart.ensures.is refl
