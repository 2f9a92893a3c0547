-- Each number is the one that the text has there. Assumes nothing.
use Rattle.std.proofs.Common.{◌∙◌, sym}
use Rattle.cases.specs.State.{counts_from}
use Rattle.cases.proofs.Onward.{in_text}
use Rattle.cases.proofs.commands.Commands.counts.Goals as goal

pub returns-clause-counts : goal.returns-clause-counts
unfolding counts_from
returns-clause-counts c =
    let nid_text = c.number-lines.ensures.text in
    let names_text = c.number-nid.ensures.text ∙ nid_text in
    let edges_text = c.number-names.ensures.text ∙ names_text in
    let dispatches_text = c.number-edges.ensures.text ∙ edges_text in
    let bads_text = c.number-dispatches.ensures.text ∙ dispatches_text in
    rw (← c.number-lines.ensures.number, ← in_text _ nid_text c.number-nid.ensures.number, ← in_text _ names_text c.number-names.ensures.number, ← in_text _ edges_text c.number-edges.ensures.number, ← in_text _ dispatches_text c.number-dispatches.ensures.number, ← in_text _ bads_text c.number-bads.ensures.number)
