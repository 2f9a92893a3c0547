-- The limit, the sort rule, or what the line says. Assumes nothing.
use Rattle.std.proofs.Common.{sym, ◌∙◌, arith}
use Rattle.evaluation_calls.proofs.Visited.{over, broken, entered}
use Rattle.evaluation_calls.proofs.Bench.visit.Goals as goal

pub returns-then-visits-ge-MOST_VISITS : goal.returns-then-visits-ge-MOST_VISITS
returns-then-visits-ge-MOST_VISITS c = let a = c.args in over a.self.now a.place.0 a.visits c.requires c.if-visits-ge-MOST_VISITS.true

pub returns-then-meets_rule : goal.returns-then-meets_rule
returns-then-meets_rule c =
    let a = c.args in
    entered a.self.now a.place.0 a.visits c.requires _ c.operator_at-line.ensures (omega arith) (sym c.meets_rule.ensures ∙ c.if-meets_rule.true)

pub returns-else-meets_rule : goal.returns-else-meets_rule
returns-else-meets_rule c =
    let a = c.args in
    broken a.self.now a.place.0 a.visits c.requires _ c.operator_at-line.ensures (omega arith) (sym c.meets_rule.ensures ∙ c.if-meets_rule.false)
