use Rattle.builder_ops.specs.Composed.{check_multiplication_overflow}
use Rattle.builder.proofs.Builds.{on}
use Rattle.builder_ops.proofs.overflow.check_multiplication_overflow.Goals as goal

pub returns : goal.returns
unfolding check_multiplication_overflow
returns c =
    on _ c.new_const-bits.ensures (
    on _ c.new_bin-x.ensures (
    on _ c.new_bin-y.ensures (
    on _ c.new_bin-z.ensures (
    on _ c.new_eq-equal.ensures (
    on _ c.new_neq-minus.ensures (
    on _ c.new_eq-msb.ensures (
    on _ c.new_eq-not_msb.ensures (
    on _ c.new_or-occurred.ensures c.new_ite.ensures))))))))
