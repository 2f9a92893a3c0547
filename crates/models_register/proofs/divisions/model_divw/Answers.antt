use Rattle.models.specs.Kinds.{model_divw}
use Rattle.builder.proofs.Builds.{on, stop}
use Rattle.models_register.proofs.divisions.model_divw.Goals as goal

pub returns : goal.returns
unfolding model_divw
returns c f =
    on _ c.new_const-thirtytwo.ensures (
    on _ c.new_sext_by-left.ensures (
    on _ c.new_sext_by-right.ensures (
    on _ c.new_bin.ensures stop)))
