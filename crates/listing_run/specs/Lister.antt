-- What only the contracts of private functions cite: the progress of the running listing, and that it goes on over the same lent lists.
use Rattle.std.specs.Prelude.{◌≡◌, ℕ, take}
use Rattle.lowering.specs.declared.Lent.{Lent}
use Rattle.lowering.specs.Lowering.{lent_by, SameLent}
use Rattle.listing_bytes.specs.Step.{Step, step}
use Rattle.listing_bytes.specs.Pieces.{Progress, progress}
use Rattle.listing_run.specs.declared.lines.Lister.{Lister}

abbrev pub progress_of : Lent ℕ → Lister → Progress
progress_of lent l = progress (lent_by lent) l.line.now l.reading

-- the step of the line that is held
abbrev pub held_step : Progress → Step
held_step p = step p.reading.number (take p.reading.held p.line) p.lent p.reading.state

pub record SameLists (l : Lent ℕ) (m : Lister) (l' : Lent ℕ) (m' : Lister) : Type 0 where
  pub lent : SameLent l l'
  pub line : m'.line.ghost_name ≡ m.line.ghost_name
