-- The lines of a piece are taken one after the other, and their text is written. Assumes nothing.
use Rattle.std.proofs.Common.{◌++◌, List, ℕ, take, sym, refl, ap, subst, ◌∙◌, arith, length-take, rules}
use Rattle.std.specs.Io.KnownBytes.{Appends}
use Rattle.std.proofs.KnownBytes.{Appends-nil, Appends-trans}
use Rattle.listing_bytes.specs.Pieces.{take_bytes}
use Rattle.listing_bytes.proofs.Text.{text_fits, text_written}
use Rattle.listing_run.specs.Lister.{progress_of}
use Rattle.listing_run.proofs.Bytes.{put_within, next_on, next_within, turn, turn_reaches, turn_text, turn_fits}
use Rattle.listing_run.proofs.take_piece.Goals as goal

pub loop-from-init : goal.loop-from-init
unfolding take_bytes
loop-from-init g c = record { within = omega arith; taken = refl; wrote = Appends-nil _; same = search rules }

-- what is written ends in the output
pub slice_bounds-write_all-end : goal.slice_bounds-write_all-end
slice_bounds-write_all-end g c = omega (arith, put_within c.take_line-taken.ensures.text (turn_fits c.args.piece.now c.loop-from.from text_fits _) (c.loop-from.auto.out ∙ c.requires))

pub slice_bounds-write_all-end-in-loop-from : goal.slice_bounds-write_all-end-in-loop-from
slice_bounds-write_all-end-in-loop-from g c =
    omega (arith, length-take {A = ℕ}, put_within c.take_line-taken.ensures.text (turn_fits c.args.piece.now c.loop-from.from text_fits _) (c.loop-from.auto.out ∙ c.requires))

pub returns-in_err-write_all-clause-reached : goal.returns-in_err-write_all-clause-reached
returns-in_err-write_all-clause-reached g c =
    let i = c.loop-from.invariant in
    let t = c.take_line-taken.ensures in
    let left = progress_of c.take_line-taken.new.lent c.take_line-taken.new.self in
    turn_reaches c.args.piece.now c.loop-from.from {q = left} t.progress i.taken i.within t.next

pub loop-from-smaller : goal.loop-from-smaller
loop-from-smaller g c = omega (arith, c.take_line-taken.ensures.next, next_on c.args.piece.now c.loop-from.from c.loop-from-test.true, next_within c.args.piece.now c.loop-from.from)

pub loop-from-preserved : goal.loop-from-preserved
loop-from-preserved g c =
    let t = c.take_line-taken.ensures in
    let a = c.args in
    let i = c.loop-from.invariant in
    let p = progress_of a.lent.now a.lister.now in
    let put = text_written _ _ _ _ (c.loop-from.auto.out ∙ c.requires) (turn_fits a.piece.now c.loop-from.from text_fits _) t.text in
    let all = sym (turn_text a.piece.now c.loop-from.from p i.within i.taken t.next) in record {
      within = rw t.next (next_within a.piece.now c.loop-from.from);
      taken = turn a.piece.now c.loop-from.from p i.within i.taken t.progress t.next;
      wrote = subst (Appends _ _) (ap (λ (s : List ℕ). (take_bytes (take c.loop-from.from a.piece.now) p).text ++ s) put ∙ all) (Appends-trans _ _ _ _ _ i.wrote c.in_ok-write_all.ensures.bytes);
      same = search rules;
    }
