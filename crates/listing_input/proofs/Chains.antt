-- The definitions in the words of std, which its lemmas on iterators speak of. Assumes nothing.
use Rattle.std.proofs.Common.{◌≡◌, ℕ, suc, ◌+◌, ◌*◌, ◌%◌, ◌^◌, ◌<◌, ◌≤◌, Bool, eqb, List, [], ◌∷◌, length, get_or, refl, ap, ◌∙◌, arith}
use Rattle.std.specs.Prelude.{Option, Some, None}
use Rattle.std.specs.List.{slice_get, slice_split, onto_first, list_all, fold, position_or_len}
use Rattle.std.specs.Option.{option_map, unwrap_or}
use Rattle.std.proofs.lemmas.List.Recursion.{is_position_or_len}
use Rattle.std.proofs.lemmas.Option.{unwrap_or-slice_get}
use Rattle.std.proofs.lemmas.List.Sums.{fold-append}
use denote.Ref.{Bor}
use lib.Pow.{pow_mono}
use mathlib.Core.List.{reverse, reverse-cons}
use Rattle.listing_input.specs.Text.{all, on_first, split, before}
use Rattle.riscv.specs.Name.{most_letters, packed}
use Rattle.listing_input.proofs.Steps.{packed_lt}

on_first_is : (b : ℕ) (parts : List (List ℕ)) → onto_first b parts ≡ on_first b parts
unfolding on_first
on_first_is b [] = refl
on_first_is b (part ∷ parts) = refl

pub split_is : (sep : ℕ) (s : List ℕ) → slice_split (λ b. eqb b sep) s ≡ split sep s
unfolding split
split_is sep [] = refl
split_is sep (b ∷ bs) = rw (split_is sep bs, on_first_is b (split sep bs))

pub all_is : (p : ℕ → Bool) (s : List ℕ) → list_all p s ≡ all p s
unfolding all
all_is p [] = refl
all_is p (b ∷ bs) = rw (all_is p bs)

pub before_is : (sep : ℕ) (s : List ℕ) → before sep s ≡ position_or_len (λ b. eqb b sep) s
unfolding before
before_is sep = is_position_or_len (before sep) (λ b. eqb b sep) refl (λ b bs. grind arith)

-- the part that `nth` gave, or none
pub part_or_none : (r : Option (Bor (List ℕ))) (d : Bor (List ℕ)) (parts : List (List ℕ)) (k : ℕ) → option_map (λ x. x.now) r ≡ slice_get parts k → d.now ≡ []
    → (unwrap_or r d).now ≡ get_or parts k []
part_or_none r d parts k e none = got r d none ∙ ap (λ (o : Option (List ℕ)). unwrap_or o []) e ∙ unwrap_or-slice_get parts k []
  where
    got : (r : Option (Bor (List ℕ))) (d : Bor (List ℕ)) → d.now ≡ [] → (unwrap_or r d).now ≡ unwrap_or (option_map (λ x. x.now) r) []
    got None d h = h
    got (Some x) d h = refl

-- the word of a name, byte by byte from its end
abbrev pub shifted : ℕ → ℕ → ℕ
shifted w b = w * 2 ^ 8 % 2 ^ 64 + b

pub packed_from_end : (s : List ℕ) → length s ≤ most_letters → ((j : ℕ) → get_or s j 0 < 256) → fold shifted 1 (reverse s) ≡ packed s
unfolding packed
packed_from_end [] h bytes = refl
packed_from_end (b ∷ bs) h bytes =
    let rest : fold shifted 1 (reverse bs) ≡ packed bs = packed_from_end bs (omega arith) (λ j. bytes (suc j)) in
    let short : 8 * length bs + 1 ≤ 49 = omega arith in
    let small : packed bs < 2 ^ 49 = omega (arith, packed_lt bs (λ j. bytes (suc j)), pow_mono short) in
    ap (fold shifted 1) (reverse-cons b bs) ∙ fold-append shifted 1 (reverse bs) (b ∷ []) ∙ ap (λ (w : ℕ). w * 2 ^ 8 % 2 ^ 64 + b) rest ∙ mod_small (packed bs) b small
  where
    mod_small : (w b : ℕ) → w < 2 ^ 49 → w * 2 ^ 8 % 2 ^ 64 + b ≡ w * 256 + b
    mod_small w b h = omega arith
