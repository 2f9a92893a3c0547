use Rattle.models.specs.Kinds.{model_mulw}
use Rattle.builder.proofs.Builds.{on, stop}
use Rattle.models_register.proofs.products.model_mulw.Goals as goal

pub returns : goal.returns
unfolding model_mulw
returns c =
    on _ c.new_const-thirtytwo.ensures (
    on _ c.new_sext_by-left.ensures (
    on _ c.new_sext_by-right.ensures (
    on _ c.new_bin-product.ensures (
    on _ c.new_sext_by-x.ensures (
    on _ c.checked-f.ensures stop)))))
