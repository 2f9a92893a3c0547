-- The word is made from the name's end. Assumes nothing.
use Rattle.std.proofs.Common.{◌∙◌, arith, rules}
use Rattle.std.proofs.lemmas.Iterator.Adapters.{YieldsList-from_rev_slice}
use Rattle.std.proofs.lemmas.Iterator.Consumers.{fold_from_yields_List}
use Rattle.listing_input.proofs.Chains.{shifted, packed_from_end}
use Rattle.listing_input.proofs.line.pack.Goals as goal

pub returns : goal.returns
returns c =
    let s = c.args.s.now in
    fold_from_yields_List _ shifted 1 c.fold.result c.fold.ensures.ran (YieldsList-from_rev_slice s cc) (λ a x b q k. search rules)
    ∙ packed_from_end s c.requires (λ j. omega (arith, c.type_inv.s j))
