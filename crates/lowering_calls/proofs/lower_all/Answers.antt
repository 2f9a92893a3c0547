-- The roles of the state in the words are tested once, and the calls are over the words. Assumes nothing.
use borrow.Author.Tests.{lt-ltb}
use Rattle.lowering.specs.Lowering.{lent_by}
use Rattle.state.specs.Words.{state_words}
use Rattle.lowering.specs.All.{lowering_all_words}
use Rattle.lowering_calls.proofs.Entries.{many}
use Rattle.lowering_calls.proofs.lower_all.Goals as goal

pub returns-then-state-lt-STATE_WORDS-clause-is : goal.returns-then-state-lt-STATE_WORDS-clause-is
unfolding lowering_all_words
returns-then-state-lt-STATE_WORDS-clause-is c = rw (lt-ltb _ state_words c.if-state-lt-STATE_WORDS.true)

pub returns-clause-is : goal.returns-clause-is
returns-clause-is c =
    let a = c.args in
    many (lent_by a.lent.now) a.state.now c.roles_fit-fits.result c.roles_fit-fits.ensures c.if-state-lt-STATE_WORDS.false a.calls.now _ c.lower_rest.ensures.is
