-- Some record is unformed. Assumes nothing.
use Prim.Native.Nat.{ℕ, ◌≤◌}
use mathlib.Core.Path.{refl, sym, ◌∙◌}
use mathlib.Core.Bool.{Bool}
use native.Mathlib.Omega.{arith}
use lib.ListN.{length}
use borrow.Author.Tests.{le-ltb}
use Rattle.std.proofs.Common.{rules}
use Rattle.std.proofs.lemmas.Iterator.{YieldsList-from_range}
use Rattle.std.proofs.lemmas.Iterator.Search.{any_from_yields_List}
use Rattle.btor2_list.specs.Record.{capacity}
use Rattle.list_check.specs.Scan.{scan_unformed}
use Rattle.list_check.proofs.Some.{any_below}
use Rattle.list_check.proofs.Formed.{by_records}
use Rattle.list_check.proofs.Scan.{scans}
use Rattle.list_check.proofs.unformed.Goals as goal

pub returns-else-capacity-lines : goal.returns-else-capacity-lines
returns-else-capacity-lines c =
    let a = c.args in
    let ws = a.list.now in
    let test : ℕ → Bool = λ i. scan_unformed ws i a.host a.ours in
    let room : a.lines ≤ capacity (length ws) = omega arith in
    rw (le-ltb _ _ room)
    (any_from_yields_List test _ _ _ c.any.ensures.ran (YieldsList-from_range 0 a.lines a.lines refl (omega arith)) (λ x b q h. search rules)
    ∙ any_below a.lines test test (λ p l. refl)
    ∙ scans ws a.lines a.host a.ours room
    ∙ sym (by_records ws a.lines room a.host a.ours))
