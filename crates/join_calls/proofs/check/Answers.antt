-- The tests in the definition's order. Assumes nothing.
use Rattle.std.proofs.Common.{◌≡◌, false, sym, ◌∙◌, arith}
use borrow.Author.Tests.{not-false}
use Rattle.join.specs.Code.{lists_lent, lists_given}
use Rattle.join.proofs.Numbers.{roles_out, is_13, is_15, is_16, is_8, is_0}
use Rattle.join_calls.proofs.Entry.{zero_below, is15, is16, is8}
use Rattle.join_calls.proofs.check.Goals as goal

pub returns-then-roles_out : goal.returns-then-roles_out
returns-then-roles_out c =
    let a = c.args in
    is_13 (lists_lent a.lent.now) a.held (lists_given a.given.now) c.requires.counts (sym c.roles_out.ensures ∙ c.if-roles_out.true)

pub returns-then-flags_out : goal.returns-then-flags_out
returns-then-flags_out c =
    let l = lists_lent c.args.lent.now in
    let h = c.args.held in
    let g = lists_given c.args.given.now in
    is_15 l h g c.requires.counts (sym c.roles_out.ensures ∙ c.if-roles_out.false) (is15 g c.requires.exact l h c.flags_out.ensures ∙ c.if-flags_out.true)

pub returns-then-edges_out-dispatches_out : goal.returns-then-edges_out-dispatches_out
returns-then-edges_out-dispatches_out c =
    let l = lists_lent c.args.lent.now in
    let h = c.args.held in
    let g = lists_given c.args.given.now in
    is_16 l h g c.requires.counts (sym c.roles_out.ensures ∙ c.if-roles_out.false) (is15 g c.requires.exact l h c.flags_out.ensures ∙ c.if-flags_out.false)
    (is16 g c.requires.exact l h c.edges_out.ensures c.dispatches_out.ensures ∙ c.if-edges_out-dispatches_out.true)

pub returns-then-exceeded : goal.returns-then-exceeded
returns-then-exceeded c =
    let l = lists_lent c.args.lent.now in
    let h = c.args.held in
    let g = lists_given c.args.given.now in
    let fit : roles_out l h g ≡ false = sym c.roles_out.ensures ∙ c.if-roles_out.false in
    let zero = zero_below l.list h.state.tally.lines h.state.roles (omega arith) (not-false _ fit) in
    is_8 l h g c.requires.counts fit (is15 g c.requires.exact l h c.flags_out.ensures ∙ c.if-flags_out.false)
    (is16 g c.requires.exact l h c.edges_out.ensures c.dispatches_out.ensures ∙ c.if-edges_out-dispatches_out.false)
    (is8 g c.requires.exact l h c.requires.counts zero (rw c.room_left-left.ensures at c.exceeded.ensures) ∙ c.if-exceeded.true)

pub returns : goal.returns
returns c =
    let l = lists_lent c.args.lent.now in
    let h = c.args.held in
    let g = lists_given c.args.given.now in
    let fit : roles_out l h g ≡ false = sym c.roles_out.ensures ∙ c.if-roles_out.false in
    let zero = zero_below l.list h.state.tally.lines h.state.roles (omega arith) (not-false _ fit) in
    is_0 l h g c.requires.counts fit (is15 g c.requires.exact l h c.flags_out.ensures ∙ c.if-flags_out.false)
    (is16 g c.requires.exact l h c.edges_out.ensures c.dispatches_out.ensures ∙ c.if-edges_out-dispatches_out.false)
    (is8 g c.requires.exact l h c.requires.counts zero (rw c.room_left-left.ensures at c.exceeded.ensures) ∙ c.if-exceeded.false)
