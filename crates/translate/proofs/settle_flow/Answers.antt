-- A word and a memory each have their flow's line. Assumes nothing.
use Rattle.models.specs.Model.{reg_flow_ite, memory_flow_ite}
use Rattle.builder.proofs.Builds.{on, stop}
use Rattle.translate.proofs.settle_flow.Goals as goal

pub returns-in-Register : goal.returns-in-Register
unfolding reg_flow_ite
returns-in-Register c f = rw c.in-Register.is (on _ c.new_ite.ensures stop)

pub returns-in-Memory : goal.returns-in-Memory
unfolding memory_flow_ite
returns-in-Memory c f = rw c.in-Memory.is (on _ c.new_ite-in-Memory.ensures stop)
