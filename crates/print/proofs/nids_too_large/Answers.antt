-- Up to the first line that has too large an identifier. Assumes nothing.
use mathlib.Core.Path.{◌≡◌, refl, sym}
use native.Mathlib.Omega.{arith}
use borrow.Author.Tests.{lt-ltb, le-ltb}
use Rattle.list_check.specs.Lines.{some}
use Rattle.list_check.proofs.Some.{some_hit, some_on}
use Rattle.print.specs.Printing.{nid_too_large, nids_too_large}
use Rattle.print.proofs.nids_too_large.Goals as goal

pub loop-i-init : goal.loop-i-init
unfolding some
loop-i-init c = refl

pub returns-then-nid-gt-MOST_NID : goal.returns-then-nid-gt-MOST_NID
unfolding nids_too_large
returns-then-nid-gt-MOST_NID c =
    let a = c.args in
    sym (some_hit a.lines (nid_too_large a.list.now a.lines) c.loop-i.i (omega arith) (rw (← c.nid_at-nid.ensures) (lt-ltb _ _ c.if-nid-gt-MOST_NID.true)))

pub loop-i-preserved : goal.loop-i-preserved
loop-i-preserved c =
    let a = c.args in
    some_on c.loop-i.i (nid_too_large a.list.now a.lines) c.loop-i.invariant (rw (← c.nid_at-nid.ensures) (le-ltb _ _ c.if-nid-gt-MOST_NID.false))

pub returns : goal.returns
unfolding nids_too_large
returns c =
    let a = c.args in
    let all : c.loop-i.i ≡ a.lines = omega arith in sym (rw all at c.loop-i.invariant)
