-- The scan of what is left, with the value so far, is the scan of all. Assumes nothing.
use Rattle.std.proofs.Common.{◌≡◌, ℕ, ◌+◌, ◌*◌, ◌-◌, ◌%◌, ◌^◌, drop, sym, ap, ◌∙◌, get_or, rules, arith}
use native.Mathlib.Nat.{mod-add-mod}
use Rattle.cases.specs.Scan.{scan, number_from}
use Rattle.cases.proofs.Onward.{on_digit, at_other, at_end}
use Rattle.cases.proofs.commands.number_from.Goals as goal

pub returns-then-not-is_ascii_digit : goal.returns-then-not-is_ascii_digit
unfolding number_from
returns-then-not-is_ascii_digit c =
    let other = sym c.is_ascii_digit.ensures.value ∙ c.if-not-is_ascii_digit.true in
    sym (at_other c.args.text.now c.loop-at.value c.loop-at.at c.loop-at-test.true other) ∙ c.loop-at.invariant.on

next_value : (v d x : ℕ) → d ≡ x → (v * 10 % 2 ^ 64 + d) % 2 ^ 64 ≡ (v * 10 + x) % 2 ^ 64
next_value v d x e = rw e (mod-add-mod (v * 10) (2 ^ 64) x)

pub loop-at-preserved : goal.loop-at-preserved
loop-at-preserved c =
    let digit = sym c.is_ascii_digit.ensures.value ∙ c.if-not-is_ascii_digit.false in
    let value = next_value c.loop-at.value c.from.result (get_or c.args.text.now c.loop-at.at 0 - 48) c.from.ensures in record {
      on = ap (λ (v : ℕ). scan v (c.loop-at.at + 1) (drop (c.loop-at.at + 1) c.args.text.now)) value
          ∙ sym (on_digit c.args.text.now c.loop-at.value c.loop-at.at c.loop-at-test.true digit) ∙ c.loop-at.invariant.on;
      within = omega (arith, c.loop-at-test.true);
    }

pub returns : goal.returns
unfolding number_from
returns c =
    let end : c.max.result ≡ c.loop-at.at = omega (arith, c.max.ensures, c.loop-at.invariant.within, c.loop-at.auto.at, c.loop-at-test.false) in
    rw end (sym (at_end c.args.text.now c.loop-at.value c.loop-at.at c.loop-at-test.false) ∙ c.loop-at.invariant.on)
