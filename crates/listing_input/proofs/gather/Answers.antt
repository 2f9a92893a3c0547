-- The search's end says where the line ends. Assumes nothing.
use Rattle.std.proofs.Common.{ℕ, eqb, refl, ap, ◌∙◌, rules}
use borrow.Author.Tests.{tests}
use Rattle.std.proofs.lemmas.Iterator.{YieldsList-from_slice}
use Rattle.std.proofs.lemmas.Iterator.Search.{position_from_yields_List}
use Rattle.text.proofs.Laws.{put_as}
use Rattle.listing_input.proofs.Ends.{rest_is, found, not_found}
use Rattle.listing_input.proofs.gather.Goals as goal

pub returns-in-Some : goal.returns-in-Some
returns-in-Some c =
    let is = ap (λ r. r.now) c.unwrap_or-rest.ensures ∙ rest_is c.get.result _ c.args.piece.now c.args.from c.get.ensures.lookup refl in
    let f = found c.args.piece.now c.args.from is (position_from_yields_List (λ (b : ℕ). eqb b 10) _ _ c.position.result c.position.ensures.ran (YieldsList-from_slice c.unwrap_or-rest.result.now cc) (λ x b q k. search (rules, tests))) c.in-Some.n c.in-Some.is in
    record { bytes = put_as c.put_bytes.ensures f.bytes; next = f.next; ended = f.ended }

pub returns-in-None : goal.returns-in-None
returns-in-None c =
    let is = ap (λ r. r.now) c.unwrap_or-rest.ensures ∙ rest_is c.get.result _ c.args.piece.now c.args.from c.get.ensures.lookup refl in
    let f = not_found c.args.piece.now c.args.from is (position_from_yields_List (λ (b : ℕ). eqb b 10) _ _ c.position.result c.position.ensures.ran (YieldsList-from_slice c.unwrap_or-rest.result.now cc) (λ x b q k. search (rules, tests))) c.in-None.is in
    record { bytes = put_as c.put_bytes-in-None.ensures f.bytes; next = f.next; ended = f.ended }
