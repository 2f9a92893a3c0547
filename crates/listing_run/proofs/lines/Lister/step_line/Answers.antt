-- The line's own bytes are those that are held. Assumes nothing.
use Rattle.std.proofs.Common.{◌≡◌, ℕ, take, ap, ◌∙◌}
use Rattle.listing_run.proofs.Bytes.{take_min}
use Rattle.listing_run.proofs.lines.Lister.step_line.Goals as goal

pub returns : goal.returns
returns c =
    let r = c.args.self.now.reading in
    let line = c.args.self.now.line.now in
    let own : take c.min-n.result line ≡ take r.held line = ap (λ (n : ℕ). take n line) c.min-n.ensures ∙ take_min r.held line in
    rw own at c.step.ensures
