-- No byte at all, or all letters. Assumes nothing.
use Rattle.std.proofs.Common.{◌≡◌, ℕ, false, eqb, List, length, sym, ◌∙◌, lt-ltb, arith, rules}
use borrow.Author.Tests.{tests, eqb-true, eqb-false}
use Rattle.std.proofs.lemmas.Iterator.{YieldsList-from_slice}
use Rattle.std.proofs.lemmas.Iterator.Search.{all_from_yields_List}
use Rattle.listing_input.specs.Text.{all}
use Rattle.listing_input.specs.Line.{letter, letters}
use Rattle.listing_input.proofs.Chains.{all_is}
use Rattle.listing_input.proofs.line.letters.Goals as goal

some : (s : List ℕ) → eqb (length s) 0 ≡ false → all letter s ≡ letters s
unfolding letters
some s e = let n = eqb-false _ _ e in rw (lt-ltb 0 (length s) (omega arith))

pub returns-then-not-is_empty : goal.returns-then-not-is_empty
returns-then-not-is_empty c =
    let s = c.args.s.now in
    all_from_yields_List letter _ _ c.all.result c.all.ensures.ran (YieldsList-from_slice s cc) (λ x b q k. search (rules, tests))
    ∙ all_is letter s ∙ some s (sym c.is_empty.ensures ∙ c.if-not-is_empty.true)

pub returns-else-not-is_empty : goal.returns-else-not-is_empty
unfolding letters
returns-else-not-is_empty c = let e : length c.args.s.now ≡ 0 = eqb-true _ _ (sym c.is_empty.ensures ∙ c.if-not-is_empty.false) in rw (c.if-not-is_empty.false, e)
