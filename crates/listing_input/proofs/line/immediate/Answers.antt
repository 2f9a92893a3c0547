-- What follows a `-` is negated, other text is the number itself. Assumes nothing.
use Rattle.std.proofs.Common.{◌+◌, ◌^◌, ◌<◌, ap, ◌∙◌, arith}
use Rattle.listing_input.specs.Line.{negated}
use Rattle.listing_input.proofs.Steps.{imm_plain, imm_minus, negative_none, negative_zero, negative_some, below}
use Rattle.listing_input.proofs.line.immediate.Goals as goal

pub returns-in_default : goal.returns-in_default
returns-in_default c = c.decimal.ensures ∙ imm_plain c.args.s.now c.in_default.ensures.cases

pub returns-in_err-n : goal.returns-in_err-n
returns-in_err-n c =
    let e = c.in-Some.ensures.cases in
    c.from_residual.ensures ∙ negative_none ∙ ap negated c.in_err-n.ensures ∙ imm_minus c.args.s.now c.in-Some.digits.now e.0 e.1

pub returns-then-n-eq0 : goal.returns-then-n-eq0
returns-then-n-eq0 c =
    let e = c.in-Some.ensures.cases in
    negative_zero c.in_ok-n.n c.if-n-eq0.true ∙ ap negated c.in_ok-n.ensures ∙ imm_minus c.args.s.now c.in-Some.digits.now e.0 e.1

pub returns : goal.returns
returns c =
    let e = c.in-Some.ensures.cases in
    let small : c.in_ok-n.n < 2 ^ 31 + 1 = below (2 ^ 31 + 1) c.in_ok-n.n c.in-Some.digits.now c.in_ok-n.ensures in
    negative_some c.in_ok-n.n c.wrapping_neg.result (omega arith) c.wrapping_neg.type_inv c.if-n-eq0.false c.wrapping_neg.ensures
    ∙ ap negated c.in_ok-n.ensures ∙ imm_minus c.args.s.now c.in-Some.digits.now e.0 e.1
