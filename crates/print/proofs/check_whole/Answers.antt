-- The tests come in the definition's order. Assumes nothing.
use mathlib.Core.Path.{sym, ◌∙◌}
use Rattle.print.specs.Printing.{whole_refusal}
use Rattle.print.proofs.check_whole.Goals as goal
use Rattle.print.proofs.check_whole.Goals.{then-list_out-via-then-list_out, then-list_out-via-else-list_out+then-nids_too_large}

pub returns-then-list_out : goal.returns-then-list_out
unfolding whole_refusal
returns-then-list_out c =
    elim c.then-list_out.branch [
      | then-list_out-via-then-list_out w ↦ rw (sym c.list_out.ensures ∙ w.if-list_out.true)
      | then-list_out-via-else-list_out+then-nids_too_large w ↦ rw (sym c.list_out.ensures ∙ w.if-list_out.false, sym w.nids_too_large.ensures ∙ w.if-nids_too_large.true)
    ]

pub returns-then-unformed : goal.returns-then-unformed
unfolding whole_refusal
returns-then-unformed c = rw (sym c.list_out.ensures ∙ c.if-list_out.false, sym c.nids_too_large.ensures ∙ c.if-nids_too_large.false, sym c.unformed.ensures ∙ c.if-unformed.true)

pub returns : goal.returns
unfolding whole_refusal
returns c = rw (sym c.list_out.ensures ∙ c.if-list_out.false, sym c.nids_too_large.ensures ∙ c.if-nids_too_large.false, sym c.unformed.ensures ∙ c.if-unformed.false)
