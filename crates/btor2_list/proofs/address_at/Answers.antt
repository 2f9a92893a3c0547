-- A line that is there is read by its mark and its last word, which are the record's. Assumes nothing.
use native.Mathlib.Omega.{arith}
use Rattle.btor2_list.specs.Record.{record_at}
use Rattle.btor2_list.proofs.address_at.Goals as goal

pub returns : goal.returns
unfolding record_at
returns c =
    let h = c.in_ok-words.ensures in
    rw (h.0, h.1.there, h.1.same 0 (omega arith), h.1.same 4 (omega arith)) (rw c.address_mark.ensures at c.address_by.ensures)
