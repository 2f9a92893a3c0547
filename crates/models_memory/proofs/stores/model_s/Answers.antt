use Rattle.models.specs.Counters.{model_s}
use Rattle.builder.proofs.Builds.{on, stop}
use Rattle.models_memory.proofs.stores.model_s.Goals as goal

pub returns : goal.returns
unfolding model_s
returns c =
    on _ c.word_address-word.ensures (
    on _ c.new_ite-access.ensures (
    on _ c.counted_read-c.ensures (
    on _ c.new_const-bits.ensures (
    on _ c.bit_offset-amount.ensures (
    on _ c.new_bin-place.ensures (
    on _ c.new_not-rest.ensures (
    on _ c.new_bin-value.ensures (
    on _ c.new_and-new.ensures (
    on _ c.new_and-old.ensures (
    on _ c.new_or-both.ensures (
    on _ c.new_write.ensures stop)))))))))))
