-- The lines of the lent words, walked: a line's meaning from those of the lines before it, and no later line changes it. Assumes nothing.
use Rattle.std.proofs.Common.{◌≡◌, ℕ, zero, suc, ◌<◌, ◌≤◌, List, [], ◌∷◌, ◌++◌, length, get_or, sym, ap, ◌∙◌, ⊎_elim, add-zero, eq-or-lt_of_le, zero-add, arith, get_or-append-add}
use mathlib.Core.List.{map-append}
use Rattle.btor2.specs.Op.{Op, map_op}
use Rattle.btor2.specs.Walk.{walk}
use Rattle.btor2.proofs.Walk.{walk-append, walk_kept, length-walk}
use Rattle.btor2_list.specs.Node.{Node}
use Rattle.btor2_list.specs.View.{view}
use Rattle.list_check.specs.Lines.{ops}
use Rattle.list_check.proofs.Formed.{ops-length}
use Rattle.evaluation_calls.specs.Inside.{said_at}

ops_more : (ws : List ℕ) (n : ℕ) → ops (view ws (suc n)) ≡ ops (view ws n) ++ (said_at ws n ∷ [])
unfolding view
ops_more ws n = map-append (λ (x : Node). x.op) (view ws n) _

module _ (M : Type 0) (none : M) (mean : ℕ → Op M → M) (ws : List ℕ) where
  -- the meanings of the first n lines
  abbrev pub first : ℕ → ℕ → M
  first n q = get_or (walk M none mean [] (ops (view ws n))) q none

  pub long : (n : ℕ) → length (walk M none mean [] (ops (view ws n))) ≡ n
  long n = length-walk M none mean [] (ops (view ws n)) ∙ zero-add _ ∙ ops-length ws n

  more : (n q : ℕ) → q < n → first (suc n) q ≡ first n q
  more n q h =
      ap (λ (l : List (Op ℕ)). get_or (walk M none mean [] l) q none) (ops_more ws n)
      ∙ walk_kept M none mean (ops (view ws n)) (said_at ws n ∷ []) q (rw (ops-length ws n) h)

  pub kept : (n p q : ℕ) → q < p → p ≤ n → first n q ≡ first p q
  kept zero p q h l = absurd (omega arith)
  kept (suc n) p q h l =
      ⊎_elim
      (λ (e : p ≡ suc n). ap (λ (k : ℕ). first k q) (sym e))
      (λ (s : p < suc n). more n q (omega arith) ∙ kept n p q h (omega arith))
      (eq-or-lt_of_le {n = p} {m = suc n} l)

  own : (n : ℕ) → first (suc n) n ≡ mean n (map_op (first n) (said_at ws n))
  unfolding walk
  own n =
      ap (λ (l : List (Op ℕ)). get_or (walk M none mean [] l) n none) (ops_more ws n)
      ∙ ap (λ (l : List M). get_or l n none) (walk-append M none mean [] (ops (view ws n)) (said_at ws n ∷ []))
      ∙ after (walk M none mean [] (ops (view ws n))) (long n)
    where
      after : (before : List M) → length before ≡ n
          → get_or (before ++ (mean (length before) (map_op (λ p. get_or before p none) (said_at ws n)) ∷ [])) n none ≡ mean n (map_op (λ p. get_or before p none) (said_at ws n))
      after before e =
          rw e
          (ap (λ (k : ℕ). get_or (before ++ (mean n (map_op (λ p. get_or before p none) (said_at ws n)) ∷ [])) k none) (sym e ∙ sym (add-zero (length before)))
          ∙ get_or-append-add before _ 0 none)

  pub at : (n p : ℕ) → p < n → first n p ≡ mean p (map_op (first p) (said_at ws p))
  at n p h = kept n (suc p) p (omega arith) (omega arith) ∙ own p
