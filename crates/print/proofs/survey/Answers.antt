-- The lines before this one have neither 9 nor 11, and there is room for their names. Assumes nothing.
use mathlib.Core.Path.{refl, sym, ◌∙◌}
use native.Mathlib.Omega.{arith}
use borrow.Author.Tests.{le-ltb}
use Rattle.list_check.specs.Lines.{some}
use Rattle.list_check.proofs.Some.{some_on}
use Rattle.list_check.proofs.Scan.{reached, scanned}
use Rattle.print.specs.Room.{rooms}
use Rattle.print.proofs.Rooms.{rooms_suc, told}
use Rattle.print.proofs.survey.Goals as goal

pub loop-i-init : goal.loop-i-init
unfolding some rooms
loop-i-init c = record { nids = refl; formed = refl; room = omega arith }

pub loop-i-preserved : goal.loop-i-preserved
loop-i-preserved c =
    let a = c.args.listing.now in
    let ws = a.list.now in
    let i = c.loop-i.i in
    let inv = c.loop-i.invariant in
    let on = scanned ws i _ _ (reached ws i _ _ (omega arith) inv.formed) in
    let found = told ws i _ _ c.loop-i.names c.in_ok-names.names (rw c.check_line.ensures.is at c.in_ok-names.ensures) in
    record {
      nids = some_on i _ inv.nids (rw (← c.nid_at-own.ensures) (le-ltb _ _ c.if-own-gt-MOST_NID.false));
      formed = some_on i _ inv.formed (sym on ∙ found.0);
      room = omega (arith, found.1, rooms_suc ws i, inv.room);
    }
