-- The two tests. Assumes nothing.
use Rattle.std.proofs.Common.{◌≡◌, Bool, true, not, true≢false, Option, Some, None, is_some, sym, refl, ap, ◌∙◌}
use Rattle.btor2.specs.Sort.{sort_numbered}
use Rattle.line_text.specs.OwnSort.{own_sort}
use Rattle.line_text.proofs.KnownKinds.{unsorted_unknown}
use Rattle.line_text.proofs.record.unsorted.Goals as goal

none : {A : Type 0} (m : Option A) (b : Bool) → is_some m ≡ not b → b ≡ true → m ≡ None
none (Some x) b e t = absurd (true≢false (e ∙ ap not t))
none None b e t = refl

pub returns-then-is_none-clause-unknown : goal.returns-then-is_none-clause-unknown
returns-then-is_none-clause-unknown c e l ek es =
    unsorted_unknown l (ap own_sort ek ∙ sym c.own_sort.ensures ∙ e)
    (ap sort_numbered es ∙ sym c.sort_of.ensures ∙ none c.sort_of.result c.is_none.result c.is_none.ensures c.if-is_none.true)
