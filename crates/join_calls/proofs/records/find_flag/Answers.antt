-- The first that has the address, of the entries read from their chunks. Assumes nothing.
use Rattle.std.proofs.Common.{◌≡◌, sym, ap, ◌∙◌, rules, Bor, List, ℕ}
use Rattle.std.proofs.lemmas.Iterator.Search.{find_from_yields_List}
use Rattle.std.specs.List.{find}
use Rattle.std.specs.Option.{option_map}
use Rattle.join.specs.Given.{no_flag, Flag, flag_in, for_address}
use Rattle.join_calls.specs.Records.{all_flags}
use Rattle.join_calls.proofs.InChunks.{flags_yield, first_found, first_none}
use Rattle.join_calls.proofs.records.find_flag.Goals as goal

abbrev entry : Bor (List ℕ) → Flag
entry words = flag_in words.now

pub returns-in-Some : goal.returns-in-Some
returns-in-Some c =
    let a = c.args in
    let is : option_map entry c.find.result ≡ find (for_address a.address) (all_flags a.flags.now) =
    find_from_yields_List (for_address a.address) _ _ _ c.find.ensures.ran (flags_yield c.chunks_exact.ensures.size c.chunks_exact.ensures.rest) (λ x b q k. search rules) in
    ap (λ (f : Flag). f.place) c.flag_in.ensures ∙ first_found no_flag (for_address a.address) (λ (x : Flag). x.place) (all_flags a.flags.now) _ (ap (option_map entry) (sym c.in-Some.is) ∙ is)

pub returns-in-None : goal.returns-in-None
returns-in-None c =
    let a = c.args in
    let is : option_map entry c.find.result ≡ find (for_address a.address) (all_flags a.flags.now) =
    find_from_yields_List (for_address a.address) _ _ _ c.find.ensures.ran (flags_yield c.chunks_exact.ensures.size c.chunks_exact.ensures.rest) (λ x b q k. search rules) in
    first_none no_flag (for_address a.address) (λ (x : Flag). x.place) (all_flags a.flags.now) (ap (option_map entry) (sym c.in-None.is) ∙ is)
