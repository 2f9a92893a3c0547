-- A value that the bench gives is the line's, and demand 3 says what that is. Assumes nothing.
use mathlib.Core.Path.{◌∙◌}
use Rattle.meaning.specs.Lines.{operators}
use Rattle.evaluation.specs.Given.{given_env}
use Rattle.evaluation.specs.Evaluation.{most_visits}
use Rattle.evaluation_laws.proofs.Law.{gives_the_value}
use Rattle.demand.specs.Calls.{run}
use Rattle.demand.specs.Demand3.{register_flow_value}
use Rattle.demand.proofs.Demand3.{demand_3}
use Rattle.demand_all.specs.Bench.{BenchMeetsManual}

pub bench_meets_manual : BenchMeetsManual
unfolding register_flow_value operators
bench_meets_manual start calls vs ms accepted records none-excluded at_most_one admitted zero r x k low high e =
    let h = run start calls in
    (gives_the_value most_visits h.list h.state.tally.lines vs ms _ x k e).same
    ∙ ((demand_3 start calls accepted records none-excluded).flows (given_env vs ms) at_most_one admitted zero).registers r low high
