-- Past the test of the words' number the check answers for the state in them. Assumes nothing.
use mathlib.Core.Path.{◌∙◌}
use lib.ListN.{length}
use borrow.Author.Tests.{lt-ltb, le-ltb}
use Rattle.state.specs.Words.{state_words}
use Rattle.host.specs.Host.{host_check}
use Rattle.host.proofs.lanthanumbat_check_start.Goals as goal

pub returns-then-state-lt-STATE_WORDS : goal.returns-then-state-lt-STATE_WORDS
unfolding host_check
returns-then-state-lt-STATE_WORDS c = rw (lt-ltb _ state_words c.if-state-lt-STATE_WORDS.true) c.number.ensures

pub returns : goal.returns
unfolding host_check
returns c =
    let a = c.args in
    rw (le-ltb (length a.state.now) state_words c.if-state-lt-STATE_WORDS.false, ← c.state_in-given.ensures) (c.number_or_zero.ensures ∙ c.check_start.ensures)
