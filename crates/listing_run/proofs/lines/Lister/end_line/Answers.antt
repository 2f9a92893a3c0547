-- The step of the line that is held, and then none is. Assumes nothing.
use Rattle.std.proofs.Common.{refl}
use Rattle.listing_bytes.specs.Pieces.{line_ended}
use Rattle.listing_run.proofs.Bytes.{same_progress}
use Rattle.listing_run.proofs.lines.Lister.end_line.Goals as goal

pub returns : goal.returns
unfolding line_ended
returns c =
    let e = c.step_line-stepped.ensures in
    record {
      progress = same_progress e.lists e.state;
      text = e.text;
      same = record { lent = e.same; line = refl };
    }
