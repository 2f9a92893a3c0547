-- Each number is the one that the text has there. Assumes nothing.
use Rattle.std.proofs.Common.{◌∙◌, sym}
use Rattle.cases.specs.State.{role_from}
use Rattle.cases.proofs.Onward.{in_text}
use Rattle.cases.proofs.commands.Commands.role.Goals as goal

pub returns-clause-role : goal.returns-clause-role
unfolding role_from
returns-clause-role c =
    let place_text = c.number-role.ensures.text in
    rw (c.with_role.ensures, ← c.number-role.ensures.number, ← in_text _ place_text c.number-place.ensures.number)
