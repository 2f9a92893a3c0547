-- The parts of the program, each as its own definition gives it, and its lines then with the address. Assumes nothing.
use Rattle.std.proofs.Common.{rules}
use Rattle.builder.proofs.Addressed.{addressed_after}
use Rattle.lowering.specs.Lines.{program_with}
use Rattle.lowering.proofs.lines.lower_lines.Goals as goal

pub returns : goal.returns
unfolding program_with
returns c =
    let a = c.args in
    rw (c.address_lines.ensures, c.tally-tally.ensures)
    (addressed_after {ws = a.list.now} {t = a.t} {p = program_with a.name a.zeros a.e a.i a.address} a.address (rw (← c.constant_of-imm.ensures) (search rules)))
