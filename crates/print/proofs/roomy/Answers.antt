-- The tests before the survey, the survey, and the sum that does not wrap. Assumes nothing.
use Prim.Native.Nat.{ℕ, ◌+◌, ◌≤◌}
use mathlib.Core.Path.{◌≡◌, sym, ◌∙◌}
use mathlib.Core.Bool.{Bool, false}
use mathlib.Core.List.{List}
use lib.ListN.{length}
use native.Mathlib.Omega.{arith}
use borrow.Author.Tests.{ltb-false, le-ltb, leb-true}
use lib.Dec.{ltb}
use Rattle.bitvec.proofs.Truth.{neither}
use Rattle.btor2_list.specs.Limits.{most_lines, lines_out}
use Rattle.btor2_list.specs.Record.{capacity}
use Rattle.list_check.proofs.Formed.{by_records}
use Rattle.print.specs.Printing.{nids_too_large, whole_refusal}
use Rattle.print.proofs.roomy.Goals as goal

-- past the tests, the list is in its bounds and the run in the list
module _ (ws : List ℕ) (lines from count : ℕ) where
  record Bounded : Type 0 where
    bounds : lines_out (capacity (length ws)) lines ≡ false
    most : lines ≤ most_lines
    held : lines ≤ capacity (length ws)
    inside : from + count ≤ lines

  bounded : {l r : Bool} → l ≡ lines_out (capacity (length ws)) lines → r ≡ ltb lines (from + count) → l ≡ false → r ≡ false → Bounded
  bounded {l} {r} bounds_is outside_is held inside =
      let bounds = sym bounds_is ∙ held in
      let each = neither (ltb most_lines lines) _ bounds in
      record {
        bounds = bounds;
        most = ltb-false most_lines lines each.0;
        held = ltb-false (capacity (length ws)) lines each.1;
        inside = ltb-false lines (from + count) (sym outside_is ∙ inside);
      }

pub survey-requires : goal.survey-requires
survey-requires c =
    let a = c.args.listing.now in
    let i = bounded a.list.now a.lines c.args.from c.args.count c.list_out.ensures c.run_outside.ensures c.if-list_out.false c.if-run_outside.false in
    i.held

pub overflow_mul-result : goal.overflow_mul-result
overflow_mul-result c =
    let a = c.args.listing.now in
    let i = bounded a.list.now a.lines c.args.from c.args.count c.list_out.ensures c.run_outside.ensures c.if-list_out.false c.if-run_outside.false in
    record { fits = omega arith }

pub returns : goal.returns
unfolding nids_too_large whole_refusal
returns c h =
    let a = c.args.listing.now in
    let ws = a.list.now in
    let i = bounded ws a.lines c.args.from c.args.count c.list_out.ensures c.run_outside.ensures c.if-list_out.false c.if-run_outside.false in
    let done = c.in-Some.ensures in
    record {
      whole = rw (i.bounds, done.nids, le-ltb _ _ i.held, by_records ws a.lines i.held _ _ ∙ done.formed);
      nids = done.nids;
      held = i.held;
      inside = i.inside;
      room = omega (arith, leb-true _ _ h, done.room, c.in-Some-checked_sub.ensures);
    }
