-- A record with an address is one without it that is given it. Assumes nothing.
use Prim.Native.Nat.{ℕ, ◌<◌}
use mathlib.Core.Path.{ap, ◌∙◌}
use mathlib.Core.List.{List}
use native.Mathlib.Omega.{arith}
use borrow.Author.Tests.{lt-ltb}
use lib.ListN.{length}
use Rattle.btor2_list.specs.Record.{capacity, words_for, with_address}
use Rattle.btor2_list.proofs.Addressed.{put_addressed}
use Rattle.btor2_list.proofs.put.Goals as goal

pub returns-in-Some-clause-list : goal.returns-in-Some-clause-list
returns-in-Some-clause-list c =
    let start = c.args in
    let p = start.place.0 in
    let a = c.in-Some.address in
    let room : p < capacity (length start.list.now) = omega arith in
    let there = lt-ltb _ _ room in
    c.address_line.ensures
    ∙ ap (λ (v : List ℕ). with_address v (words_for p) a) c.store.ensures
    ∙ rw (there, c.in-Some.is) (rw there at (put_addressed start.list.now p start.line a there))
