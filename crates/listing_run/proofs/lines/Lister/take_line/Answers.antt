-- What was gathered is held, and ends where a newline was found. Assumes nothing.
use Rattle.std.proofs.Common.{◌^◌, ◌<◌, length, sym, refl, ap, ◌∙◌, arith, rules}
use Rattle.text.proofs.Laws.{put_as}
use Rattle.listing_bytes.specs.Pieces.{Told, line_ended}
use Rattle.listing_run.specs.Lister.{progress_of}
use Rattle.listing_run.proofs.Bytes.{held_is, taken_ended, taken_more}
use Rattle.listing_run.proofs.lines.Lister.take_line.Goals as goal

pub returns-in-Some : goal.returns-in-Some
returns-in-Some c =
    let e = c.end_line.ensures in
    let g = rw c.in-Some.is at c.gather-gathered.ensures in
    let a = c.args in
    let p = progress_of a.lent.now a.self.now in
    let small : length a.self.now.line.now < 2 ^ 64 = omega arith in
    let counted : a.self.now.reading.held < 2 ^ 64 = omega arith in
    let is = ap line_ended (held_is p g.bytes) ∙ sym (taken_ended a.piece.now a.from p small counted (sym g.ended)) in record {
      progress = e.progress ∙ ap (λ (u : Told). u.progress) is;
      text = put_as e.text (ap (λ (u : Told). u.text) is);
      next = g.next;
      same = search rules;
    }

pub returns-in-None : goal.returns-in-None
returns-in-None c =
    let g = rw c.in-None.is at c.gather-gathered.ensures in
    let a = c.args in
    let p = progress_of a.lent.now a.self.now in
    let small : length a.self.now.line.now < 2 ^ 64 = omega arith in
    let counted : a.self.now.reading.held < 2 ^ 64 = omega arith in
    let is = taken_more a.piece.now a.from p small counted (sym g.ended) in record {
      progress = held_is p g.bytes ∙ sym (ap (λ (u : Told). u.progress) is);
      text = put_as (record { list = refl; next = refl }) (sym (ap (λ (u : Told). u.text) is));
      next = g.next;
      same = search rules;
    }
