-- The table of names, and names in one word: two names of bytes are the same where their words are. Assumes nothing.
use Prim.Native.Nat.{ℕ, zero, suc, ◌+◌, ◌≤◌, ◌<◌}
use mathlib.Core.Path.{◌≡◌, refl, sym, ap, ◌∙◌, subst}
use mathlib.Core.Bool.{Bool, true, false, cond, ◌&&◌}
use mathlib.Core.List.{List, [], ◌∷◌, map}
use native.Mathlib.Nat.{zero-add, le_refl, le_of_suc-le-suc, not-suc-le-zero}
use native.Mathlib.Numerals.{add-one}
use native.Mathlib.Omega.{arith}
use lib.Dec.{T, ltb, leb, eqb, ltb→lt, leb→le}
use lib.ListN.{length, get_or, drop, drop_of_length-le}
use lib.Seq.{drop-cons}
use mir.Facts.{and_yes}
use borrow.Author.Tests.{eq-eqb, eqb-true, eqb-false}
use Rattle.std.specs.Prelude.{Some}
use Rattle.std.specs.List.{find, range_with_len}
use Rattle.std.specs.Option.{unwrap_or}
use Rattle.listing_input.specs.Text.{all}
use Rattle.riscv.specs.declared.Kind.{Kind}
use Rattle.riscv.specs.declared.Kind.TheVariants.{Ecall}
use Rattle.riscv.specs.Kind.{kinds, kind_count, kind_at, kind_name, kind_names}
use Rattle.riscv.specs.Name.{most_letters, packed}
use Rattle.listing_input.specs.Kinds.{same, place_of}
use Rattle.listing_input.proofs.Steps.{and_right}

-- ---- two names, and their words

packed_pos : (s : List ℕ) → 0 < packed s
unfolding packed
packed_pos [] = le_refl 1
packed_pos (b ∷ bs) = omega (arith, packed_pos bs)

pub same_yes : (s t : List ℕ) → ((j : ℕ) → get_or s j 0 < 256) → ((j : ℕ) → get_or t j 0 < 256) → packed s ≡ packed t → same s t ≡ true
unfolding same packed
same_yes [] [] hs ht e = refl
same_yes [] (y ∷ ys) hs ht e = absurd (omega (arith, packed_pos ys))
same_yes (x ∷ xs) [] hs ht e = absurd (omega (arith, packed_pos xs))
same_yes (x ∷ xs) (y ∷ ys) hs ht e =
    let p : x ≡ y = omega (arith, hs 0, ht 0) in
    let q : packed xs ≡ packed ys = omega (arith, hs 0, ht 0) in
    rw (eq-eqb x y p) (same_yes xs ys (λ j. hs (suc j)) (λ j. ht (suc j)) q)

and_left : (a b : Bool) → (a && b) ≡ true → a ≡ true
and_left true b e = refl
and_left false b e = e

same_is : (s t : List ℕ) → same s t ≡ true → s ≡ t
unfolding same
same_is [] [] e = refl
same_is [] (y ∷ ys) e = absurd (subst T (sym e) tt)
same_is (x ∷ xs) [] e = absurd (subst T (sym e) tt)
same_is (x ∷ xs) (y ∷ ys) e = cc (eqb-true x y (and_left (eqb x y) (same xs ys) e), same_is xs ys (and_right (eqb x y) (same xs ys) e))

pub same_no : (s t : List ℕ) → (packed s ≡ packed t → ⊥) → same s t ≡ false
same_no s t n = go (same s t) refl
  where
    go : (v : Bool) → same s t ≡ v → v ≡ false
    go true e = absurd (n (ap packed (same_is s t e)))
    go false e = refl

-- ---- a search of a table

module _ (l : List (List ℕ)) (k : ℕ) (h : k < length l) (s : List ℕ) where
  pub place_hit : same s (get_or l k []) ≡ true → place_of s (drop k l) ≡ 0
  unfolding place_of
  place_hit e = rw (drop-cons l k [] h, e)

  pub place_miss : same s (get_or l k []) ≡ false → place_of s (drop k l) ≡ suc (place_of s (drop (k + 1) l))
  unfolding place_of
  place_miss e = rw (add-one, drop-cons l k [] h, e)

pub place_end : (l : List (List ℕ)) (k : ℕ) (s : List ℕ) → length l ≤ k → place_of s (drop k l) ≡ 0
unfolding place_of
place_end l k s h = rw (drop_of_length-le l h)

-- ---- the table: two tests of each name, which antt computes

each : (List ℕ → Bool) → List (List ℕ) → Bool
each p [] = true
each p (x ∷ xs) = p x && each p xs

byte : ℕ → Bool
byte b = ltb b 256

short : List ℕ → Bool
short x = leb (length x) most_letters

names_bytes : T (each (all byte) kind_names)
unfolding each kind_names all byte
names_bytes = tt

names_short : T (each short kind_names)
unfolding each kind_names short
names_short = tt

pub names_length : length kind_names ≡ kind_count
unfolding kind_names
names_length = refl

byte_at : (s : List ℕ) → T (all byte s) → (j : ℕ) → get_or s j 0 < 256
unfolding all byte
byte_at [] t j = omega arith
byte_at (b ∷ bs) t zero = ltb→lt b 256 (and_yes (byte b) (all byte bs) t).0
byte_at (b ∷ bs) t (suc j) = byte_at bs (and_yes (byte b) (all byte bs) t).1 j

bytes_in : (l : List (List ℕ)) → T (each (all byte) l) → (k j : ℕ) → get_or (get_or l k []) j 0 < 256
unfolding each
bytes_in [] t k j = omega arith
bytes_in (x ∷ xs) t zero j = byte_at x (and_yes (all byte x) (each (all byte) xs) t).0 j
bytes_in (x ∷ xs) t (suc k) j = bytes_in xs (and_yes (all byte x) (each (all byte) xs) t).1 k j

pub name_bytes_lem : (k j : ℕ) → get_or (get_or kind_names k []) j 0 < 256
name_bytes_lem = bytes_in kind_names names_bytes

-- a longer name is not in the table
none_in : (l : List (List ℕ)) → T (each short l) → (s : List ℕ) → most_letters < length s → place_of s l ≡ length l
unfolding place_of each short
none_in [] t s h = refl
none_in (x ∷ xs) t s h =
    let w : T (short x) × T (each short xs) = and_yes (short x) (each short xs) t in
    go (same s x) refl (leb→le (length x) most_letters w.0) (none_in xs w.1 s h)
  where
    go : (v : Bool) → same s x ≡ v → length x ≤ most_letters → place_of s xs ≡ length xs → cond v 0 (suc (place_of s xs)) ≡ suc (length xs)
    go true e f r = absurd (omega (arith, ap length (same_is s x e)))
    go false e f r = ap suc r

pub long_name : (s : List ℕ) → most_letters < length s → kind_count ≡ place_of s kind_names
long_name s h = sym (none_in kind_names names_short s h ∙ names_length)

name_in : (l : List Kind) (k : ℕ) → k < length l → get_or (map kind_name l) k [] ≡ kind_name (get_or l k Ecall)
name_in [] k h = absurd (not-suc-le-zero h)
name_in (x ∷ xs) zero h = refl
name_in (x ∷ xs) (suc k) h = name_in xs k (le_of_suc-le-suc h)

-- the table has the name of each kind at its number
pub name_at_lem : (k : ℕ) → k < kind_count → get_or kind_names k [] ≡ kind_name (kind_at k)
unfolding kind_names
name_at_lem k h = name_in kinds k h

-- ---- a search of the kinds by the words of their names

module _ (s : List ℕ) (bytes : (j : ℕ) → get_or s j 0 < 256) (w : ℕ) (is : w ≡ packed s) where
  abbrev pub named : ℕ → Bool
  named k = eqb (packed (kind_name (kind_at k))) w

  named_yes : (k : ℕ) → k < kind_count → named k ≡ true → same s (get_or kind_names k []) ≡ true
  named_yes k h e = same_yes s (get_or kind_names k []) bytes (name_bytes_lem k) (sym (eqb-true _ _ e ∙ is) ∙ ap packed (sym (name_at_lem k h)))

  named_no : (k : ℕ) → k < kind_count → named k ≡ false → same s (get_or kind_names k []) ≡ false
  named_no k h e = same_no s (get_or kind_names k []) (λ p. eqb-false _ _ e (ap packed (sym (name_at_lem k h)) ∙ sym p ∙ sym is))

  kind_found : (n k : ℕ) → k + n ≡ kind_count → unwrap_or (find named (range_with_len k n)) kind_count ≡ k + place_of s (drop k kind_names)
  kind_found zero k e = omega (arith, place_end kind_names k s (omega (arith, names_length)))
  kind_found (suc n) k e = go (named k) refl (kind_found n (k + 1) (omega arith))
    where
      within : k < length kind_names
      within = omega (arith, names_length)

      go : (b : Bool) → named k ≡ b → unwrap_or (find named (range_with_len (k + 1) n)) kind_count ≡ k + 1 + place_of s (drop (k + 1) kind_names)
          → unwrap_or (cond b (Some k) (find named (range_with_len (k + 1) n))) kind_count ≡ k + place_of s (drop k kind_names)
      go true h rest = omega (arith, place_hit kind_names k within s (named_yes k (omega arith) h))
      go false h rest = omega (arith, rest, place_miss kind_names k within s (named_no k (omega arith) h))

  pub first_kind : unwrap_or (find named (range_with_len 0 kind_count)) kind_count ≡ place_of s kind_names
  first_kind = kind_found kind_count 0 refl ∙ zero-add _
