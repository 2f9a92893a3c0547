use Rattle.models.specs.Kinds.{shifted_back}
use Rattle.builder.proofs.Builds.{on, stop}
use Rattle.models_immediate.proofs.shifts.shifted_back.Goals as goal

pub returns : goal.returns
unfolding shifted_back
returns c f =
    on _ c.new_const-c.ensures (
    on _ c.new_const-thirtytwo.ensures (
    on _ c.new_bin-x.ensures (
    on _ c.apply.ensures stop)))
