-- The run of the program, and what each part makes of its outcome. Assumes nothing.
use Rattle.lowering_calls.specs.Apart.{accepted_with}
use Rattle.lowering_calls.proofs.apart.accept.Goals as goal

pub returns-clause-is : goal.returns-clause-is
unfolding accepted_with
returns-clause-is c =
    let run = rw c.name_for-name.ensures at c.lower_lines-m.ensures in
    rw (← run, ← c.requires.is, ← c.counts_after.ensures, ← c.go_to_instructions.ensures, c.put_jalr.ensures.is)
