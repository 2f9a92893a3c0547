-- The line's parse says which way is taken. Assumes nothing.
use Rattle.std.proofs.Common.{refl, rules}
use Rattle.listing_bytes.specs.Step.{step}
use Rattle.listing_step.proofs.step.Goals as goal

pub returns-in-Some : goal.returns-in-Some
unfolding step
returns-in-Some c = rw (← c.in-Some.ensures, ← c.emptied-ready.ensures) c.step_instruction.ensures

pub returns-in-None : goal.returns-in-None
unfolding step
returns-in-None c = rw (← c.in-None.ensures, ← c.emptied-ready.ensures) (record { state = refl; lists = refl; text = c.put_refused.ensures; same = search rules })
