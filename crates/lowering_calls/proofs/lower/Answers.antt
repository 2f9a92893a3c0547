-- The call is over the state's words, which are read again. Assumes nothing.
use Rattle.std.proofs.lemmas.Result.{err_from_is_err_and}
use Rattle.lowering.specs.Lowering.{lent_by}
use Rattle.lowering_calls.proofs.Entries.{over_state, refused_over_state}
use Rattle.lowering_calls.proofs.lower.Goals as goal

pub returns-in_err-lower_words-clause-is : goal.returns-in_err-lower_words-clause-is
returns-in_err-lower_words-clause-is c =
    let a = c.args in
    let p = err_from_is_err_and c.from_residual.result c.from_residual.ensures.1 in
    rw (p.1, p.2)
    (refused_over_state (lent_by a.lent.now) a.state a.call.instruction a.call.address a.call.flag c.words_of-words.ensures.roles c.in_err-lower_words.field-0.0 _ _
    (rw c.words_of-words.ensures.words at c.in_err-lower_words.ensures.is))

pub returns-clause-is : goal.returns-clause-is
returns-clause-is c =
    let a = c.args in
    over_state (lent_by a.lent.now) a.state a.call.instruction a.call.address a.call.flag c.words_of-words.ensures.roles 0 _ _ _
    (rw c.words_of-words.ensures.words at c.in_ok-lower_words.ensures.is) c.state_in.ensures
