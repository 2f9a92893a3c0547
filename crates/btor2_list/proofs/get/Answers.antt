-- The record that its words say. Assumes nothing.
use Rattle.btor2_list.proofs.Words.{record_read}
use Rattle.btor2_list.proofs.get.Goals as goal

pub returns : goal.returns
returns c =
    let h = c.in_ok-words.ensures in
    rw (h.there, c.fetch.ensures, ← record_read _ _ _ h)
