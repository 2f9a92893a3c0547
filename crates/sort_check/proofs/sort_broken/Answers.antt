-- Some record breaks the rule. Assumes nothing.
use Prim.Native.Nat.{ℕ, ◌≤◌, ◌<◌}
use mathlib.Core.Path.{refl, sym, ◌∙◌}
use mathlib.Core.Bool.{Bool, true, cond}
use native.Mathlib.Omega.{arith}
use lib.ListN.{length}
use borrow.Author.Tests.{lt-ltb, le-ltb}
use Rattle.std.proofs.Common.{rules}
use Rattle.std.proofs.lemmas.Iterator.{YieldsList-from_range}
use Rattle.std.proofs.lemmas.Iterator.Search.{any_from_yields_List}
use Rattle.btor2_list.specs.Record.{capacity, holds}
use Rattle.list_check.proofs.Some.{any_below}
use Rattle.sort_check.proofs.Meets.{record_broken, by_records}
use Rattle.sort_check.proofs.sort_broken.Goals as goal

pub returns-else-capacity-lines : goal.returns-else-capacity-lines
returns-else-capacity-lines c =
    let a = c.args in
    let ws = a.list.now in
    let test : ℕ → Bool = λ i. cond (holds ws i) (record_broken ws i) true in
    let room : a.lines ≤ capacity (length ws) = omega arith in
    rw (le-ltb _ _ room)
    (any_from_yields_List test _ _ _ c.any.ensures.ran (YieldsList-from_range 0 a.lines a.lines refl (omega arith)) (λ x b q h. search rules)
    ∙ any_below a.lines test (record_broken ws) (λ p l. let there : p < capacity (length ws) = omega arith in rw (lt-ltb _ _ there))
    ∙ sym (by_records ws a.lines room))
