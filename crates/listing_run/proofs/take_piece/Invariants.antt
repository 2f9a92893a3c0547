-- The lines of a piece are taken one after the other, and their text is written. Assumes nothing.
use Rattle.std.proofs.Common.{◌≡◌, ◌-◌, ◌≤◌, length, take}
use Rattle.std.specs.Io.KnownBytes.{Appends}
use Rattle.listing_bytes.specs.Pieces.{take_bytes}
use Rattle.listing_run.specs.Lister.{progress_of, SameLists}
use Rattle.listing_run.proofs.take_piece.Given as goal

abbrev pub invariant-loop-from : goal.invariant-loop-from
invariant-loop-from g l =
    let i = l.initial in
    let p = progress_of i.lent i.lister in record {
      within : l.from ≤ length l.piece;
      taken : progress_of l.lent l.lister ≡ (take_bytes (take l.from l.piece) p).progress;
      wrote : Appends (g.W.Write.contents i.writer) (g.W.Write.contents l.writer) (take_bytes (take l.from l.piece) p).text;
      same : SameLists i.lent i.lister l.lent l.lister;
    }

abbrev pub decreases-loop-from : goal.decreases-loop-from
decreases-loop-from g l = length l.piece - l.from
