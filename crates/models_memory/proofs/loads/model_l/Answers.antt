use Rattle.models.specs.Counters.{model_l}
use Rattle.builder.proofs.Builds.{on, stop}
use Rattle.models_memory.proofs.loads.model_l.Goals as goal

pub returns : goal.returns
unfolding model_l
returns c =
    on _ c.word_address-word.ensures (
    on _ c.new_ite-f.ensures (
    on _ c.new_read-cell.ensures (
    on _ c.bit_offset-amount.ensures (
    on _ c.new_const-up.ensures (
    on _ c.new_bin-left.ensures (
    on _ c.new_bin-high.ensures (
    on _ c.new_shift_right.ensures stop)))))))
