-- A list stored over the front of another, one element after the other. Assumes nothing.
use Prim.Native.Nat.{ℕ, suc, ◌+◌, ◌<◌}
use native.Mathlib.Nat.{le_of_lt}
use native.Mathlib.Numerals.{add-one}
use native.Mathlib.Omega.{arith}
use mathlib.Core.Path.{◌≡◌, sym, ap, ◌∙◌}
use mathlib.Core.List.{List, ◌++◌, append-nil}
use lib.ListN.{length, get_or, set, take, drop, drop_of_length-le}
use lib.Seq.{drop-cons, set_at, append_snoc, take-suc, take_all, length-take-le}

-- the first k of s, stored over the front of d
abbrev pub front : {A : Type 0} → List A → List A → ℕ → List A
front s d k = take k s ++ drop k d

pub front_more : {A : Type 0} (s d : List A) (k : ℕ) (z : A) → k < length s → k < length d → set (front s d k) k (get_or s k z) ≡ front s d (k + 1)
front_more s d k z hs hd =
    ap (λ r. set (take k s ++ r) k (get_or s k z)) (drop-cons d k z hd)
    ∙ set_at (take k s) (get_or d k z) (drop (suc k) d) (get_or s k z) k (length-take-le k s (le_of_lt hs))
    ∙ sym (append_snoc (take k s) (get_or s k z) (drop (suc k) d))
    ∙ ap (λ r. r ++ drop (suc k) d) (sym (take-suc s k z hs))
    ∙ ap (front s d) (sym (add-one k))

pub front_all : {A : Type 0} (s d : List A) (k : ℕ) → length s ≡ k → length d ≡ k → front s d k ≡ s
front_all s d k hs hd = ap (λ r. take k s ++ r) (drop_of_length-le d {i = k} (omega arith)) ∙ append-nil (take k s) ∙ take_all k s (omega arith)
