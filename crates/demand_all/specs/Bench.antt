-- The bench and demand 3 speak of one thing: after any list of calls that demand 3 speaks of, a value that the bench gives for the flow of a
-- register is the manual's, where the call with the true flag writes that register, and else the flow's starting value.
use Rattle.std.specs.Prelude.{ℕ, ◌≤◌, ◌≡◌, List}
use Rattle.riscv.specs.Format.{last_register}
use Rattle.state.specs.Roles.{register_flow}
use Rattle.evaluation.specs.Given.{given_env}
use Rattle.evaluation.specs.Answer.{Evaluated, Value}
use Rattle.evaluation.specs.Evaluation.{evaluated}
use Rattle.demand.specs.Calls.{Held, Call, run}
use Rattle.demand.specs.Demand3.{AcceptedStart, Records, NoneExcluded, AtMostOne, TrueOnesAdmitted, ZeroRegister, registers_by, true_ones}

-- what the bench answers for the flow of register r, under records of values vs and of memory ms
abbrev pub flow_evaluated : Held → List ℕ → List ℕ → ℕ → Evaluated
flow_evaluated h vs ms r = evaluated h.list h.state.tally.lines vs ms (register_flow h.state.roles r).0

abbrev pub BenchMeetsManual : Type 0
BenchMeetsManual =
    (start : Held) (calls : List Call) (vs ms : List ℕ) → AcceptedStart start → Records calls → NoneExcluded start calls
    → AtMostOne (given_env vs ms) start calls → TrueOnesAdmitted (given_env vs ms) start calls → ZeroRegister (given_env vs ms) start
    → (r x k : ℕ) → 1 ≤ r → r ≤ last_register → flow_evaluated (run start calls) vs ms r ≡ Value x k
    → x ≡ registers_by (given_env vs ms) start (true_ones (given_env vs ms) start calls) r
