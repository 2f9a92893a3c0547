-- As many as the parts of the cut. Assumes nothing.
use Rattle.std.proofs.Common.{◌∙◌, ap, eqb, length, List, ℕ, rules}
use borrow.Author.Tests.{tests}
use Rattle.std.proofs.lemmas.Iterator.Consumers.{count_from_yields_List}
use Rattle.std.proofs.lemmas.Iterator.Splits.{YieldsList-from_slice_split}
use Rattle.listing_input.proofs.Chains.{split_is}
use Rattle.listing_input.proofs.line.fields.Goals as goal

pub returns : goal.returns
returns c =
    let s = c.args.s.now in
    let e = c.split.ensures in
    count_from_yields_List _ c.count.result c.count.ensures.ran (YieldsList-from_slice_split _ (λ (b : ℕ). eqb b 32) s e.rest e.done e.closure (λ x b q k. search (rules, tests)))
    ∙ ap (λ (parts : List (List ℕ)). length parts) (split_is 32 s)
