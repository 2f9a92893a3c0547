use Rattle.models.specs.Kinds.{model_slliw}
use Rattle.builder.proofs.Builds.{on, stop}
use Rattle.models_immediate.proofs.shifts.model_slliw.Goals as goal

pub returns : goal.returns
unfolding model_slliw
returns c f =
    on _ c.new_const-c.ensures (
    on _ c.new_const-thirtytwo.ensures (
    on _ c.new_bin-x.ensures (
    on _ c.new_sra.ensures stop)))
