use Rattle.join.specs.ControlFlow.{control_flow_from_regular}
use Rattle.join_calls.proofs.control_flow.control_flow_from_regular.Goals as goal

pub returns : goal.returns
unfolding control_flow_from_regular
returns c = c.control_flow_from_any.ensures
