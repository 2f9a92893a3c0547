use Rattle.builder.proofs.Builds.{on}
use Rattle.join.specs.ControlFlow.{control_flow_from_branch}
use Rattle.join_calls.proofs.control_flow.control_flow_from_branch.Goals as goal

pub returns : goal.returns
unfolding control_flow_from_branch
returns c = search on
