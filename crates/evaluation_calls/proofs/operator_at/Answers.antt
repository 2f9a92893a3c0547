-- The record is there, so that what it says is the operator. Assumes nothing.
use Rattle.std.proofs.Common.{sym, ap, ◌∙◌, true≢false, lt-ltb}
use Rattle.btor2_list.specs.Node.{op_of}
use Rattle.btor2_list.proofs.Got.{found, not_found}
use Rattle.evaluation_calls.proofs.operator_at.Goals as goal

pub returns-in-Some : goal.returns-in-Some
returns-in-Some c =
    let a = c.args in
    c.operator_of.ensures ∙ ap op_of (sym (found a.list.now a.place.0 _ (sym c.in-Some.ensures)).1)

pub returns-in-None : goal.returns-in-None
returns-in-None c =
    let a = c.args in
    absurd (true≢false (sym (lt-ltb _ _ c.requires) ∙ not_found a.list.now a.place.0 (sym c.in-None.ensures)))
