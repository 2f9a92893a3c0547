-- Only Jalr under x0 has one. Assumes nothing.
use mathlib.Core.Path.{sym, ◌∙◌}
use Rattle.lowering.proofs.lines.name_for.Goals as goal

pub returns-then-has_bad : goal.returns-then-has_bad
returns-then-has_bad c = rw (sym c.has_bad.ensures ∙ c.if-has_bad.true, ← c.bad_name_len-len.ensures.is)

pub returns : goal.returns
returns c = rw (sym c.has_bad.ensures ∙ c.if-has_bad.false) c.no_name.ensures
