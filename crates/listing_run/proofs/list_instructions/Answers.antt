-- What is lent is the definition's storage, with the start in it, and the last line's output has room. Assumes nothing.
use Rattle.std.proofs.Common.{◌≡◌, ℕ, List, ◌∙◌, arith, length-take}
use Rattle.std.proofs.lemmas.Result.{on_ok_weaker}
use Rattle.lowering.specs.Lowering.{lent}
use Rattle.listing_bytes.specs.declared.Reading.{Reading}
use Rattle.listing_bytes.specs.Storage.{start_lent, out_room}
use Rattle.listing_bytes.specs.Pieces.{progress, start}
use Rattle.listing_bytes.proofs.Room.{zeros}
use Rattle.listing_bytes.proofs.Text.{text_fits, text_written}
use Rattle.listing_run.proofs.Bytes.{put_within, end_fits, listed}
use Rattle.listing_run.proofs.list_instructions.Goals as goal

begun : {list line : List ℕ} {r : Reading} → list ≡ start_lent.list → line ≡ start.line → r ≡ start.reading
    → progress (lent list start_lent.names start_lent.edges start_lent.dispatches start_lent.bads) line r ≡ start
unfolding start start_lent
begun p q r = λ i. progress (lent (p i) start_lent.names start_lent.edges start_lent.dispatches start_lent.bads) (q i) (r i)

pub slice_bounds-out-end : goal.slice_bounds-out-end
slice_bounds-out-end g c = omega (arith, put_within c.end_input-length.ensures.text (end_fits text_fits _) (c.read_all.auto.out ∙ zeros out_room))

pub slice_bounds-write_all-end : goal.slice_bounds-write_all-end
slice_bounds-write_all-end g c = omega (arith, length-take {A = ℕ}, put_within c.end_input-length.ensures.text (end_fits text_fits _) (c.read_all.auto.out ∙ zeros out_room))

pub returns : goal.returns
unfolding start start_lent
returns g c =
    let from_start = begun c.put_start.ensures c.new-lister.ensures.line c.new-lister.ensures.reading in
    let put = text_written _ _ _ _ (c.read_all.auto.out ∙ zeros out_room) (end_fits text_fits _) c.end_input-length.ensures.text in
    on_ok_weaker c.write_all.result (listed from_start c.in_ok-read_all.ensures.listed put (g.W.Write.contents c.write_all.new.self)) c.write_all.ensures.bytes
