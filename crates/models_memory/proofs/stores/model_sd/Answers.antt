use Rattle.models.specs.Counters.{model_sd}
use Rattle.builder.proofs.Builds.{on, stop}
use Rattle.models_memory.proofs.stores.model_sd.Goals as goal

pub returns : goal.returns
unfolding model_sd
returns c =
    on _ c.model_address-address.ensures (
    on _ c.new_ite-f.ensures (
    on _ c.new_write-cell.ensures (
    on _ c.new_ite-f-2.ensures (
    on _ c.new_write.ensures stop))))
