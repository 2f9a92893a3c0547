-- The text where there is surely room; else the first refusal that applies, or the text. Assumes nothing.
use Prim.Native.Nat.{◌≤◌}
use mathlib.Core.Path.{sym, ◌∙◌}
use lib.ListN.{length}
use native.Mathlib.Omega.{arith}
use borrow.Author.Tests.{le-ltb}
use Rattle.std.proofs.lemmas.Result.{err_from_is_err_and}
use Rattle.print.proofs.Rooms.{run_fits}
use Rattle.print.proofs.Outcomes.{run, refused_9, refused_whole, refused_14, written_run}
use Rattle.print.proofs.print.Goals as goal

pub returns-then-roomy : goal.returns-then-roomy
returns-then-roomy c =
    let a = c.args.listing.now in
    let g = c.args in
    let r = c.roomy.ensures c.if-roomy.true in
    let text = run a.list.now a.lines a.areas.host.now a.areas.ours.now g.from g.count g.out.now in
    let most = run_fits a.list.now a.lines a.areas.host.now a.areas.ours.now r.nids r.held g.from g.count r.inside in
    let fits : length text ≤ length g.out.now = omega (arith, most, r.room) in
    let next = c.put_run-n.ensures.next in
    written_run a.list.now a.lines a.areas.host.now a.areas.ours.now g.from g.count g.out.now
    (le-ltb _ _ r.inside) r.whole
    c.put_run-n.new.out c.put_run-n.result c.put_run-n.result c.put_run-n.ensures (omega (arith, next, fits)) fits

pub returns-then-run_outside : goal.returns-then-run_outside
returns-then-run_outside c =
    let a = c.args.listing.now in
    refused_9 a.list.now a.lines a.areas.host.now a.areas.ours.now c.args.from c.args.count c.args.out.now (sym c.run_outside.ensures ∙ c.if-run_outside.true)

pub returns-in_err-check_whole : goal.returns-in_err-check_whole
returns-in_err-check_whole c =
    let a = c.args.listing.now in
    let passed = err_from_is_err_and c.from_residual.result c.from_residual.ensures.1 in
    let refused = refused_whole a.list.now a.lines a.areas.host.now a.areas.ours.now c.args.from c.args.count c.args.out.now (sym c.run_outside.ensures ∙ c.if-run_outside.false) c.in_err-check_whole.field-0.0 c.in_err-check_whole.ensures in
    rw (passed.1, passed.2) refused

pub returns-then-out-n : goal.returns-then-out-n
returns-then-out-n c =
    let a = c.args.listing.now in
    refused_14 a.list.now a.lines a.areas.host.now a.areas.ours.now c.args.from c.args.count c.args.out.now
    (sym c.run_outside.ensures ∙ c.if-run_outside.false) (sym c.in_ok-check_whole.ensures) (omega (arith, c.run_len-n.ensures, c.if-out-n.true))

pub returns : goal.returns
returns c =
    let a = c.args.listing.now in
    let g = c.args in
    let fits : length (run a.list.now a.lines a.areas.host.now a.areas.ours.now g.from g.count g.out.now) ≤ length g.out.now = omega (arith, c.run_len-n.ensures, c.if-out-n.false) in
    written_run a.list.now a.lines a.areas.host.now a.areas.ours.now g.from g.count g.out.now
    (sym c.run_outside.ensures ∙ c.if-run_outside.false) (sym c.in_ok-check_whole.ensures)
    c.put_run.new.out c.put_run.result c.run_len-n.result c.put_run.ensures (omega (arith, c.run_len-n.ensures, fits)) fits
