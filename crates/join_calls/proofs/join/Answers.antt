-- Refused, all stays; accepted, the program is run. Assumes nothing.
use Rattle.std.proofs.Common.{rules, ◌≡◌, false, sym, ◌∙◌}
use Rattle.std.proofs.lemmas.Result.{err_from_is_err_and}
use Rattle.refusals.proofs.Numbered.{numbered}
use Rattle.join.specs.Code.{lists_lent, lists_given}
use Rattle.join.specs.Refusal.{join_refusal, join_counts_out}
use Rattle.join.proofs.Laws.{refused_leaves}
use Rattle.join.proofs.Numbers.{is_9, passed, within}
use Rattle.join_calls.specs.Records.{asked_for}
use Rattle.join_calls.proofs.Entry.{asked_exact, counts_fit, refused_join, accepted_join}
use Rattle.join_calls.proofs.join.Goals as goal

pub returns-then-counts_out-clause-is : goal.returns-then-counts_out-clause-is
returns-then-counts_out-clause-is c =
    let l = lists_lent c.args.lent.now in
    let h = c.args.held in
    let g = lists_given c.args.input.now in
    let n : 9 ≡ join_refusal l h g = is_9 l h g (sym c.counts_out.ensures ∙ c.if-counts_out.true) in
    sym (rw (sym n) at (refused_leaves l h g (λ z. cc)))

pub returns-in_err-check-clause-is : goal.returns-in_err-check-clause-is
returns-in_err-check-clause-is c =
    let l = lists_lent c.args.lent.now in
    let h = c.args.held in
    let g = lists_given c.args.input.now in
    let p = err_from_is_err_and c.from_residual.result c.from_residual.ensures.1 in
    let counts : join_counts_out l h g ≡ false = sym c.counts_out.ensures ∙ c.if-counts_out.false in
    rw (p.1, p.2) (refused_join l h g counts _ (numbered c.in_err-check.field-0.0) (rw c.asked_for-given.ensures at c.in_err-check.ensures))

pub accept-requires : goal.accept-requires
accept-requires c =
    let l = lists_lent c.args.lent.now in
    let h = c.args.held in
    let g = lists_given c.args.input.now in
    let w = within l h g (sym c.counts_out.ensures ∙ c.if-counts_out.false) in
    let p = passed l h (asked_for g) (sym (rw c.asked_for-given.ensures at c.in_ok-check.ensures)) in
    rw c.asked_for-given.ensures (counts_fit l h (asked_for g) (asked_exact g (record { edges = w.edges; dispatches = w.dispatches; flags = w.flags })) (search rules) (search rules) p.room)

pub returns-clause-is : goal.returns-clause-is
returns-clause-is c =
    let l = lists_lent c.args.lent.now in
    let h = c.args.held in
    let g = lists_given c.args.input.now in
    let counts : join_counts_out l h g ≡ false = sym c.counts_out.ensures ∙ c.if-counts_out.false in
    rw c.asked_for-given.ensures at c.accept.ensures ∙ accepted_join l h g counts (rw c.asked_for-given.ensures at c.in_ok-check.ensures)
