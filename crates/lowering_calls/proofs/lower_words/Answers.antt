-- The roles of the state in the words are tested, and the call is over the words. Assumes nothing.
use Rattle.lowering.specs.Lowering.{lent_by}
use Rattle.lowering_calls.proofs.Entries.{one}
use Rattle.lowering_calls.proofs.lower_words.Goals as goal

pub returns-clause-is : goal.returns-clause-is
returns-clause-is c =
    let a = c.args in
    one (lent_by a.lent.now) a.state.now c.roles_fit-fits.result c.roles_fit-fits.ensures a.call.instruction a.call.address a.call.flag _ c.lower_known.ensures.is
