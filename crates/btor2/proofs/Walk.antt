-- Lines after a list change no meaning in it. Assumes nothing.
use Prim.Native.Nat.{ℕ, ◌+◌, ◌<◌}
use native.Mathlib.Nat.{zero-add}
use native.Mathlib.Omega.{arith}
use mathlib.Core.Path.{◌≡◌, refl, ◌∙◌, ap}
use mathlib.Core.List.{List, [], ◌∷◌, ◌++◌}
use lib.ListN.{length, get_or, length-append, get_or-append}
use Rattle.btor2.specs.Op.{Op, map_op}
use Rattle.btor2.specs.Walk.{walk}

module _ (M : Type 0) (none : M) (mean : ℕ → Op M → M) where
  -- the meanings before a line, with its own
  abbrev pub more : List M → Op ℕ → List M
  more before o = before ++ (mean (length before) (map_op (λ p. get_or before p none) o) ∷ [])

  pub walk-append : (before : List M) (xs ys : List (Op ℕ)) → walk M none mean before (xs ++ ys) ≡ walk M none mean (walk M none mean before xs) ys
  unfolding walk
  walk-append before [] ys = refl
  walk-append before (o ∷ xs) ys = walk-append (more before o) xs ys

  pub walk_extends : (before : List M) (xs : List (Op ℕ)) (p : ℕ) → p < length before → get_or (walk M none mean before xs) p none ≡ get_or before p none
  unfolding walk
  walk_extends before [] p h = refl
  walk_extends before (o ∷ xs) p h = walk_extends (more before o) xs p (rw length-append (omega arith)) ∙ get_or-append before _ none p h

  pub length-walk : (before : List M) (xs : List (Op ℕ)) → length (walk M none mean before xs) ≡ length before + length xs
  unfolding walk
  length-walk before [] = omega arith
  length-walk before (o ∷ xs) = length-walk (more before o) xs ∙ rw length-append (omega arith)

  -- of a whole list
  pub walk_kept : (xs ys : List (Op ℕ)) (p : ℕ) → p < length xs → get_or (walk M none mean [] (xs ++ ys)) p none ≡ get_or (walk M none mean [] xs) p none
  walk_kept xs ys p h =
      ap (λ l. get_or l p none) (walk-append [] xs ys)
      ∙ walk_extends (walk M none mean [] xs) ys p (rw (length-walk [] xs ∙ zero-add (length xs)) h)
