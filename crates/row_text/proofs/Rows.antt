-- The pieces of a row, one after the other, are the row. Assumes nothing.
use Prim.Native.Nat.{ℕ, ◌+◌, ◌<◌}
use native.Mathlib.Numerals.{add-one}
use mathlib.Core.Path.{◌≡◌}
use mathlib.Core.Bool.{true, false}
use mathlib.Core.List.{List, [], ◌∷◌, ◌++◌, append-nil, append_assoc}
use lib.ListN.{length, take, get_or}
use lib.Seq.{take-suc}
use Rattle.text.specs.Numeral.{decimal_text}
use Rattle.row_text.specs.Row.{numbers_text, row_text}

-- one number after the others
one_after : (xs : List ℕ) (y : ℕ) → numbers_text (xs ++ (y ∷ [])) ≡ numbers_text xs ++ (32 ∷ decimal_text y)
one_after [] y = append-nil _
one_after (x ∷ xs) y = rw (one_after xs y, append_assoc)

pub number_more : (xs : List ℕ) (i : ℕ) → i < length xs → numbers_text (take i xs) ++ (32 ∷ decimal_text (get_or xs i 0)) ≡ numbers_text (take (i + 1) xs)
number_more xs i h = rw (add-one, take-suc xs i 0, one_after)

-- the same pieces in another grouping: space s, identifier n, word w, first number x, a text t after it, and what ends the row
module _ (s n w x t end : List ℕ) where
  plain_pieces : n ++ (s ++ w) ++ (s ++ x) ++ t ++ end ≡ n ++ s ++ w ++ (s ++ x ++ t) ++ [] ++ end
  plain_pieces = simp (append-nil, append_assoc)

  named_pieces : n ++ (s ++ w) ++ (s ++ x) ++ s ++ t ++ end ≡ n ++ s ++ w ++ (s ++ x ++ []) ++ (s ++ t) ++ end
  named_pieces = simp (append-nil, append_assoc)

module _ (nid : ℕ) (word : List ℕ) (x : ℕ) where
  abbrev head : List ℕ
  head = decimal_text nid ++ (32 ∷ word) ++ (32 ∷ decimal_text x)

  pub numbers_row : (xs : List ℕ) → head ++ numbers_text xs ++ (10 ∷ []) ≡ row_text nid word (x ∷ xs) false []
  unfolding row_text
  numbers_row xs = plain_pieces (32 ∷ []) (decimal_text nid) word (decimal_text x) (numbers_text xs) (10 ∷ [])

  pub named_row : (name : List ℕ) → head ++ (32 ∷ []) ++ name ++ (10 ∷ []) ≡ row_text nid word (x ∷ []) true name
  unfolding row_text
  named_row name = named_pieces (32 ∷ []) (decimal_text nid) word (decimal_text x) name (10 ∷ [])
