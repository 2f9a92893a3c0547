-- What falls is the place; two operands stand between their places and that of the line that names them. Assumes nothing.
use Rattle.std.proofs.Common.{◌+◌, ◌*◌, max}
use Rattle.evaluation_calls.proofs.Bench.+looks.Given as goal

abbrev pub decreases-cell : goal.decreases-cell
decreases-cell l = 2 * l.place.0

abbrev pub decreases-number : goal.decreases-number
decreases-number l = 2 * l.place.0

abbrev pub decreases-two : goal.decreases-two
decreases-two l = 2 * max l.a.0 l.b.0 + 1
