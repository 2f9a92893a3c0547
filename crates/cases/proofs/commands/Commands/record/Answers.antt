-- Each number is the one that the text has there. Assumes nothing.
use Rattle.std.proofs.Common.{◌∙◌, sym}
use Rattle.cases.specs.Record.{record_from}
use Rattle.cases.proofs.Onward.{in_text}
use Rattle.cases.proofs.commands.Commands.record.Goals as goal

pub returns-clause-record : goal.returns-clause-record
unfolding record_from
returns-clause-record c =
    let nid_text = c.number-place.ensures.text in
    let kind_text = c.number-nid.ensures.text ∙ nid_text in
    let sort_text = c.number-kind.ensures.text ∙ kind_text in
    let op1_text = c.number-sort.ensures.text ∙ sort_text in
    let op2_text = c.number-op1.ensures.text ∙ op1_text in
    let op3_text = c.number-op2.ensures.text ∙ op2_text in
    let imm_text = c.number-op3.ensures.text ∙ op3_text in
    let area_text = c.number-imm.ensures.text ∙ imm_text in
    let at_text = c.number-area.ensures.text ∙ area_text in
    let len_text = c.number-at.ensures.text ∙ at_text in
    let mark_text = c.number-len.ensures.text ∙ len_text in
    let address_text = c.number-mark.ensures.text ∙ mark_text in
    rw (c.address_by.ensures, ← c.number-place.ensures.number, ← in_text _ nid_text c.number-nid.ensures.number, ← in_text _ kind_text c.number-kind.ensures.number, ← in_text _ sort_text c.number-sort.ensures.number, ← in_text _ op1_text c.number-op1.ensures.number, ← in_text _ op2_text c.number-op2.ensures.number, ← in_text _ op3_text c.number-op3.ensures.number, ← in_text _ imm_text c.number-imm.ensures.number, ← in_text _ area_text c.number-area.ensures.number, ← in_text _ at_text c.number-at.ensures.number, ← in_text _ len_text c.number-len.ensures.number, ← in_text _ mark_text c.number-mark.ensures.number, ← in_text _ address_text c.number-address.ensures.number)
