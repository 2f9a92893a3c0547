use Rattle.models.specs.Counters.{counted_read}
use Rattle.builder.proofs.Builds.{on, stop}
use Rattle.models_memory.proofs.counted.counted_read.Goals as goal

pub returns : goal.returns
unfolding counted_read
returns c =
    on _ c.new_read-current.ensures (
    on _ c.new_bin-next.ensures (
    on _ c.new_bin-above.ensures (
    on _ c.new_ite-update.ensures (
    on _ c.new_ite-maximum.ensures (
    on _ c.new_write-cell.ensures (
    on _ c.new_ite-counter.ensures (
    on _ c.new_read-node.ensures stop)))))))
