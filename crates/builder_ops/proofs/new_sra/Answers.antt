use Rattle.builder_ops.specs.Composed.{new_sra}
use Rattle.builder.proofs.Builds.{on}
use Rattle.builder_ops.proofs.new_sra.Goals as goal

pub returns : goal.returns
unfolding new_sra
returns c =
    on _ c.new_const-c.ensures (
    on _ c.new_bin-s.ensures (
    on _ c.new_bin-x.ensures (
    on _ c.new_bin-y.ensures c.new_bin.ensures)))
