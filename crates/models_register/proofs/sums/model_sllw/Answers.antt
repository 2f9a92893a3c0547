use Rattle.models.specs.Kinds.{model_sllw}
use Rattle.builder.proofs.Builds.{on, stop}
use Rattle.models_register.proofs.sums.model_sllw.Goals as goal

pub returns : goal.returns
unfolding model_sllw
returns c f =
    on _ c.new_const-thirtytwo.ensures (
    on _ c.new_const-mask.ensures (
    on _ c.new_and-amount.ensures (
    on _ c.new_bin-sum.ensures (
    on _ c.new_bin-x.ensures (
    on _ c.new_sra.ensures stop)))))
