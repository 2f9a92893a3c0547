-- Its first word is the record's. Assumes nothing.
use native.Mathlib.Omega.{arith}
use Rattle.btor2_list.specs.Record.{record_at}
use Rattle.btor2_list.proofs.nid_at.Goals as goal

pub returns-in-Some : goal.returns-in-Some
unfolding record_at
returns-in-Some c =
    let h = c.in-Some.ensures in
    rw (h.there, h.same 0 (omega arith)) c.nid.ensures
