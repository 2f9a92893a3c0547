-- The tests before the first visit, then the evaluation. Assumes nothing.
use Rattle.std.proofs.Common.{◌≡◌, refl, sym, ap, ◌∙◌, Option, Some, None}
use Rattle.btor2.specs.declared.NodeType.{NodeType}
use Rattle.btor2_list.specs.declared.Looked.{Looked}
use Rattle.evaluation_calls.specs.declared.Bench.{Bench}
use Rattle.evaluation_calls.proofs.Answer.{askable_is, not_askable, too_long, not_well, Asked, asked_other, answered}
use Rattle.evaluation_calls.proofs.evaluate.Goals as goal
use Rattle.evaluation_calls.proofs.evaluate.Goals.{After-look-looked, then-lines-gt-BENCH_LINES-via-then-lines-gt-BENCH_LINES, then-lines-gt-BENCH_LINES-via-else-lines-gt-BENCH_LINES+then-broken}

pub returns-then-lines-gt-BENCH_LINES : goal.returns-then-lines-gt-BENCH_LINES
returns-then-lines-gt-BENCH_LINES c =
    let a = c.args in
    let bench : Bench = record { list = a.list; values = a.values; memory = a.memory } in
    elim c.then-lines-gt-BENCH_LINES.branch [
      | then-lines-gt-BENCH_LINES-via-then-lines-gt-BENCH_LINES w ↦ too_long bench a.lines a.asked.0 w.if-lines-gt-BENCH_LINES.true
      | then-lines-gt-BENCH_LINES-via-else-lines-gt-BENCH_LINES+then-broken w ↦ not_well bench a.lines a.asked.0 (sym w.broken.ensures ∙ w.if-broken.true)
    ]

-- after the lookup: the list is short and not broken
abbrev bench_of : After-look-looked → Bench
bench_of c = let a = c.args in record { list = a.list; values = a.values; memory = a.memory }

asked : (c : After-look-looked) (m : Option NodeType) → c.look-looked.result.sort ≡ m → Asked (bench_of c) c.args.lines c.args.asked.0 m
asked c m e = record {
  short = c.if-lines-gt-BENCH_LINES.false;
  well = sym c.broken.ensures ∙ c.if-broken.false;
  sort = ap (λ (x : Looked). x.sort) (sym c.look-looked.ensures) ∙ e;
}

pub returns-in_default : goal.returns-in_default
returns-in_default c = let h = (goal.at.returns-in_default c).After-look-looked in asked_other _ _ _ (asked h None c.in_default.is) refl

pub returns-in-Bit : goal.returns-in-Bit
returns-in-Bit c = let h = (goal.at.returns-in-Bit c).After-look-looked in answered _ _ _ (asked h (Some c.in-Some.sort) c.in-Some.is) _ (askable_is _ c.in-Bit.is) c.number.ensures

pub returns-in_default-sort : goal.returns-in_default-sort
returns-in_default-sort c =
    let h = (goal.at.returns-in_default-sort c).After-look-looked in
    asked_other _ _ _ (asked h (Some c.in-Some.sort) c.in-Some.is) (not_askable _ c.in_default-sort.not-Bit c.in_default-sort.not-Word)
