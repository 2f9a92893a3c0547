-- The lines before this one have neither 9 nor 11, and there is room for their names. Assumes nothing.
use Rattle.print.specs.Room.{Surveyed}
use Rattle.print.proofs.survey.Given as goal

abbrev pub invariant-loop-i : goal.invariant-loop-i
invariant-loop-i l = Surveyed l.list l.listing.lines l.host l.ours l.i l.names
