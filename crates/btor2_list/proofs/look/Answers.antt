-- A line that is there is read by its first word. Assumes nothing.
use mathlib.Core.Path.{◌≡◌, ap}
use native.Mathlib.Omega.{arith}
use lib.ListN.{get_or}
use Rattle.btor2_list.specs.Record.{word, record_at, nid_in, kind_in, sort_in}
use Rattle.btor2_list.proofs.look.Goals as goal

pub returns-in-Some : goal.returns-in-Some
unfolding record_at
returns-in-Some c =
    let a = c.args in
    let h = c.in-Some.ensures in
    let first : word a.list.now a.place.0 0 ≡ get_or c.in-Some.words.now 0 0 = h.1.same 0 (omega arith) in
    rw (h.0, h.1.there) (c.looked.ensures (record_at a.list.now a.place.0) (ap nid_in first) (ap kind_in first) (ap sort_in first))
