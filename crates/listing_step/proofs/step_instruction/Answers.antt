-- The call's answer says what is put: what was appended, or the refusal's number, which is not 0. Assumes nothing.
use Rattle.std.proofs.Common.{ap, ◌∙◌, ne_eqb}
use Rattle.refusals.proofs.Numbered.{numbered}
use Rattle.text.proofs.Laws.{put_as}
use Rattle.listing_text.specs.Remarks.{refused_text}
use Rattle.listing_bytes.specs.Step.{answer_text}
use Rattle.listing_step.proofs.step_instruction.Goals as goal

pub returns-in-Ok-clause-text : goal.returns-in-Ok-clause-text
unfolding answer_text
returns-in-Ok-clause-text c = put_as c.put_appended.ensures (ap (answer_text c.args.number c.args.state.tally.lines) c.in-Ok.ensures.is)

pub returns-in-Err-clause-text : goal.returns-in-Err-clause-text
unfolding answer_text
returns-in-Err-clause-text c =
    let told = ap (answer_text c.args.number c.args.state.tally.lines) c.in-Err.ensures.is in
    put_as c.put_refused.ensures (ap (refused_text c.args.number) c.number.ensures ∙ (rw (ne_eqb _ 0 (numbered c.in-Err.refusal)) at told))
