-- Nothing of a line is held, or a line has ended. Assumes nothing.
use Rattle.std.proofs.Common.{refl, eq-eqb, ne_eqb, rules}
use Rattle.listing_bytes.specs.Pieces.{input_ended}
use Rattle.listing_run.proofs.lines.Lister.end_input.Goals as goal

pub returns-then-self-eq0 : goal.returns-then-self-eq0
unfolding input_ended
returns-then-self-eq0 c = rw (eq-eqb _ 0 c.if-self-eq0.true) (record { progress = refl; text = record { list = refl; next = refl }; same = search rules })

pub returns : goal.returns
unfolding input_ended
returns c = rw (ne_eqb _ 0 c.if-self-eq0.false) c.end_line.ensures
