-- Each number is the one that the text has there. Assumes nothing.
use Rattle.std.proofs.Common.{◌∙◌}
use Rattle.cases.specs.Instruction.{instruction_from}
use Rattle.cases.proofs.Onward.{in_text}
use Rattle.cases.proofs.commands.Commands.instruction.Goals as goal

pub returns-clause-instruction : goal.returns-clause-instruction
unfolding instruction_from
returns-clause-instruction c =
    let rd_text = c.number-kind.ensures.text in
    let rs1_text = c.number-rd.ensures.text ∙ rd_text in
    let rs2_text = c.number-rs1.ensures.text ∙ rs1_text in
    let imm_text = c.number-rs2.ensures.text ∙ rs2_text in
    rw (← c.number-kind.ensures.number, ← in_text _ rd_text c.number-rd.ensures.number, ← in_text _ rs1_text c.number-rs1.ensures.number, ← in_text _ rs2_text c.number-rs2.ensures.number, ← in_text _ imm_text c.number-imm.ensures.number)
