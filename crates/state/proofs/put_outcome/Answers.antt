-- Each outcome sets its own flow, or none. Assumes nothing.
use Rattle.std.proofs.Common.{arith, ⊎_elim}
use Rattle.state.specs.Roles.{memory_flow}
use Rattle.state.proofs.Put.{unchanged, put, kept_is}
use Rattle.state.proofs.put_outcome.Goals as goal

pub returns-in-Memory : goal.returns-in-Memory
returns-in-Memory c = rw c.in-Memory.is (kept_is (put (unchanged c.args.words.now c.requires) memory_flow c.in-Memory.x.0 (omega arith)))

pub returns-in-Nothing : goal.returns-in-Nothing
returns-in-Nothing c =
    let kept = kept_is (unchanged c.args.words.now c.requires) in
    ⊎_elim (λ e. rw e kept) (λ (x, y, e). rw e kept) c.in-Nothing.is
