-- The first kind whose name's word is that of the name. Assumes nothing.
use Rattle.std.proofs.Common.{ℕ, eqb, ap, sym, refl, ◌∙◌, arith, rules}
use Rattle.std.specs.Prelude.{Option}
use Rattle.std.specs.Option.{unwrap_or}
use borrow.Author.Tests.{tests}
use Rattle.std.proofs.lemmas.Iterator.Adapters.{option_map_id}
use Rattle.std.proofs.lemmas.Iterator.{YieldsList-from_range}
use Rattle.std.proofs.lemmas.Iterator.Search.{find_from_yields_List}
use Rattle.riscv.specs.Kind.{kind_count, kind_at, kind_name}
use Rattle.riscv.specs.Name.{packed}
use Rattle.listing_input.proofs.Names.{long_name, first_kind}
use Rattle.listing_input.proofs.line.kind_code.Goals as goal

pub returns-then-name-gt-MOST_LETTERS : goal.returns-then-name-gt-MOST_LETTERS
returns-then-name-gt-MOST_LETTERS c = long_name c.args.name.now c.if-name-gt-MOST_LETTERS.true

pub returns : goal.returns
returns c =
    let s = c.args.name.now in
    c.unwrap_or.ensures
    ∙ ap (λ (o : Option ℕ). unwrap_or o kind_count)
    (sym (option_map_id c.find.result) ∙ find_from_yields_List {v = λ (x : ℕ). x} (λ (k : ℕ). eqb (packed (kind_name (kind_at k))) c.pack-w.result) _ _ c.find.result c.find.ensures.ran (YieldsList-from_range 0 kind_count kind_count refl refl) (λ x b q k. search (rules, tests)))
    ∙ first_kind s (λ j. omega (arith, c.type_inv.name j)) c.pack-w.result c.pack-w.ensures
