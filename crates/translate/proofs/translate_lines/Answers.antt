-- The model's lines, the flow's, and Jalr's bad line, one after the other. Assumes nothing.
use Rattle.models.specs.Model.{unimplemented, translate}
use Rattle.builder.proofs.Builds.{on, stop}
use Rattle.translate.proofs.translate_lines.Goals as goal

pub returns-then-has_bad : goal.returns-then-has_bad
unfolding translate unimplemented
returns-then-has_bad c =
    let shape = rw c.at.ensures at c.shape_of.ensures in
    rw (shape, ← c.class_of.ensures, ← c.has_bad.ensures, c.if-has_bad.true)
    (on _ c.model_shape-modeled.ensures (on _ (c.settle_flow-outcome.ensures _) (on _ c.new_bad.ensures stop)))

pub returns-else-has_bad : goal.returns-else-has_bad
unfolding translate unimplemented
returns-else-has_bad c =
    let shape = rw c.at.ensures at c.shape_of.ensures in
    rw (shape, ← c.class_of.ensures, ← c.has_bad.ensures, c.if-has_bad.false)
    (on _ c.model_shape-modeled.ensures (on _ (c.settle_flow-outcome.ensures _) stop))
