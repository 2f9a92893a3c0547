-- By the test of the flow's place. Assumes nothing.
use borrow.Author.Tests.{eq-eqb, ne_eqb}
use Rattle.builder.proofs.Builds.{stop}
use Rattle.join.specs.ControlFlow.{control_flow_from_any}
use Rattle.join_calls.proofs.control_flow.control_flow_from_any.Goals as goal

pub returns-then-flow-bits : goal.returns-then-flow-bits
unfolding control_flow_from_any
returns-then-flow-bits c = rw (eq-eqb _ _ c.if-flow-bits.true) stop

pub returns : goal.returns
unfolding control_flow_from_any
returns c = rw (ne_eqb _ _ c.if-flow-bits.false) c.new_ite.ensures
