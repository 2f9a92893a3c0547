-- The rest carries the number on to the value of all, and is of digits just where all is. Assumes nothing.
use Rattle.std.proofs.Common.{◌≡◌, ◌+◌, ◌-◌, ◌*◌, true, get_or, drop, sym, ◌∙◌, arith}
use borrow.Author.Tests.{eqb-true, eqb-false}
use Rattle.listing_input.specs.Text.{digit, decimal}
use Rattle.listing_input.proofs.Steps.{all_yes, all_no, all_end, no_number, onward_more, onward_end, onward_ge, decimal_yes, not_digits, lead_zero, too_large, is_number}
use Rattle.listing_input.proofs.line.decimal.Goals as goal
use Rattle.listing_input.proofs.line.decimal.Goals.{else-s-eq48-via-then-s-eq48+else-s-gt1, else-s-eq48-via-else-s-eq48}

pub returns-then-is_empty : goal.returns-then-is_empty
returns-then-is_empty c = no_number (c.args.most + 1) c.args.s.now (eqb-true _ _ (sym c.is_empty.ensures ∙ c.if-is_empty.true))

pub returns-then-s-gt1 : goal.returns-then-s-gt1
returns-then-s-gt1 c = lead_zero (c.args.most + 1) c.args.s.now c.if-s-gt1.true c.if-s-eq48.true

pub returns-then-not-is_ascii_digit : goal.returns-then-not-is_ascii_digit
returns-then-not-is_ascii_digit c =
    let s = c.args.s.now in
    not_digits (c.args.most + 1) s (sym c.loop-b.invariant.digits ∙ all_no s c.loop-b.b-index c.loop-b-test.true digit (sym c.is_ascii_digit.ensures.value ∙ c.if-not-is_ascii_digit.true))

pub returns-in_err-checked_mul : goal.returns-in_err-checked_mul
returns-in_err-checked_mul c =
    let l = c.loop-b in
    let s = c.args.s.now in
    c.from_residual.ensures
    ∙ too_large (c.args.most + 1) s
    (omega (arith, onward_more s l.b-index c.loop-b-test.true l.n, onward_ge (l.n * 10 + (get_or s l.b-index 0 - 48)) (drop (l.b-index + 1) s), c.in_err-checked_mul.ensures))

pub returns-in_err-n : goal.returns-in_err-n
returns-in_err-n c =
    let l = c.loop-b in
    let s = c.args.s.now in
    c.from_residual-in_err-n.ensures
    ∙ too_large (c.args.most + 1) s
    (omega (arith, onward_more s l.b-index c.loop-b-test.true l.n, onward_ge (l.n * 10 + (get_or s l.b-index 0 - 48)) (drop (l.b-index + 1) s), c.in_ok-checked_mul.ensures, c.in_err-n.ensures))

pub loop-b-preserved : goal.loop-b-preserved
loop-b-preserved c =
    let l = c.loop-b in
    let s = c.args.s.now in
    let t = c.loop-b-test.true in
    let next : c.in_ok-n.n ≡ l.n * 10 + (get_or s l.b-index 0 - 48) = omega (arith, c.in_ok-checked_mul.ensures, c.in_ok-n.ensures) in
    record {
      value = rw next (sym (onward_more s l.b-index t l.n) ∙ l.invariant.value);
      digits = sym (all_yes s l.b-index t digit (sym c.is_ascii_digit.ensures.value ∙ c.if-not-is_ascii_digit.false)) ∙ l.invariant.digits;
    }

pub returns-then-most-n : goal.returns-then-most-n
returns-then-most-n c =
    let l = c.loop-b in
    let s = c.args.s.now in
    too_large (c.args.most + 1) s (omega (arith, onward_end s l.b-index c.loop-b-test.false l.n, l.invariant.value))

pub returns-else-most-n : goal.returns-else-most-n
returns-else-most-n c =
    let l = c.loop-b in
    let s = c.args.s.now in
    let t = c.loop-b-test.false in
    let all_digits = sym l.invariant.digits ∙ all_end s l.b-index t digit in
    let some = eqb-false _ _ (sym c.is_empty.ensures ∙ c.if-is_empty.false) in
    let plain : decimal s ≡ true =
    elim c.else-s-eq48.branch [
      | else-s-eq48-via-then-s-eq48+else-s-gt1 w ↦ decimal_yes s (omega arith) (λ m. omega (arith, w.if-s-gt1.false)) all_digits
      | else-s-eq48-via-else-s-eq48 w ↦ decimal_yes s (omega arith) (λ m. w.if-s-eq48.false) all_digits
    ] in
    is_number (c.args.most + 1) l.n s plain (sym (onward_end s l.b-index t l.n) ∙ l.invariant.value) (omega arith)
