-- The part that the cut gives at k, or none. Assumes nothing.
use Rattle.std.proofs.Common.{◌∙◌, ap, eqb, get_or, List, ℕ, [], refl, rules}
use borrow.Author.Tests.{tests}
use Rattle.std.proofs.lemmas.Iterator.Consumers.{nth_from_yields_List}
use Rattle.std.proofs.lemmas.Iterator.Splits.{YieldsList-from_slice_split}
use Rattle.listing_input.proofs.Chains.{split_is, part_or_none}
use Rattle.listing_input.proofs.line.field.Goals as goal

pub returns : goal.returns
returns c =
    let s = c.args.s.now in
    let e = c.split.ensures in
    ap (λ r. r.now) c.unwrap_or.ensures
    ∙ part_or_none c.nth.result _ _ c.args.k
    (nth_from_yields_List c.nth.result _ c.args.k c.nth.ensures.ran (YieldsList-from_slice_split _ (λ (b : ℕ). eqb b 32) s e.rest e.done e.closure (λ x b q k. search (rules, tests)))) refl
    ∙ ap (λ (parts : List (List ℕ)). get_or parts c.args.k []) (split_is 32 s)
