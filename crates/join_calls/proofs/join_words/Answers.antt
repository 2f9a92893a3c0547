-- The join with the state in the words, which are put back. Assumes nothing.
use Rattle.std.proofs.Common.{arith}
use Rattle.std.proofs.lemmas.Result.{err_from_is_err_and}
use borrow.Author.Tests.{lt-ltb}
use Rattle.state.specs.Words.{state_words}
use Rattle.join.specs.Code.{lists_lent, lists_given}
use Rattle.join.specs.Words.{joining_words}
use Rattle.join_calls.proofs.Entry.{words_put, words_left}
use Rattle.join_calls.proofs.join_words.Goals as goal

pub returns-then-state-lt-STATE_WORDS-clause-is : goal.returns-then-state-lt-STATE_WORDS-clause-is
unfolding joining_words
returns-then-state-lt-STATE_WORDS-clause-is c = rw (lt-ltb _ state_words c.if-state-lt-STATE_WORDS.true)

pub returns-in_err-flow-clause-is : goal.returns-in_err-flow-clause-is
returns-in_err-flow-clause-is c =
    let a = c.args in
    let p = err_from_is_err_and c.from_residual.result c.from_residual.ensures.1 in
    rw (p.1, p.2) (words_left (lists_lent a.lent.now) (lists_lent c.join.new.lent) a.state.now a.used (lists_given a.input.now) _ (rw c.state_in.ensures at c.in_err-flow.ensures.is) (omega (arith, c.if-state-lt-STATE_WORDS.false)))

pub returns-clause-is : goal.returns-clause-is
returns-clause-is c =
    let a = c.args in
    rw c.put_counts.ensures
    (words_put (lists_lent a.lent.now) _ a.state.now a.used (lists_given a.input.now) _ _ _ (rw c.state_in.ensures at c.in_ok-flow.ensures.is) (omega (arith, c.if-state-lt-STATE_WORDS.false)))
