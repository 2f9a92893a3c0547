use Rattle.builder_ops.specs.Composed.{check_addition_overflow}
use Rattle.builder.proofs.Builds.{on}
use Rattle.builder_ops.proofs.overflow.check_addition_overflow.Goals as goal

pub returns : goal.returns
unfolding check_addition_overflow
returns c =
    on _ c.new_const-bits.ensures (
    on _ c.new_bin-x.ensures (
    on _ c.new_bin-y.ensures (
    on _ c.new_bin-z.ensures (
    on _ c.new_eq-equal.ensures (
    on _ c.new_neq-overflow.ensures (
    on _ c.new_and-occurred.ensures c.new_ite.ensures))))))
