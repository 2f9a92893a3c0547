use Rattle.builder.proofs.Builds.{on}
use Rattle.join.specs.ControlFlow.{control_flow_from_jalr}
use Rattle.join_calls.proofs.control_flow.control_flow_from_jalr.Goals as goal

pub returns : goal.returns
unfolding control_flow_from_jalr
returns c = search on
