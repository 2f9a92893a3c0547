-- A template that is placed after a list whose lines its roles are: its lines meet the sort rule, and have the values that it has by
-- itself. Assumes nothing.
use Rattle.std.specs.Prelude.{Option, Some, None}
use Prim.Native.Nat.{ℕ, ◌<◌}
use native.Mathlib.Decide.{dec_lt}
use native.Mathlib.Omega.{arith}
use mathlib.Core.Path.{◌≡◌, sym, ◌∙◌, ap, subst, fun_ext}
use mathlib.Core.Bool.{Bool, true, false, ◌&&◌}
use mathlib.Core.List.{List, [], ◌∷◌, ◌++◌}
use lib.Dec.{T}
use lib.ListN.{length, get_or, get_or-eq_default}
use Rattle.btor2.specs.declared.NodeType.{NodeType}
use Rattle.btor2.specs.Op.{Op, unknown, carried}
use Rattle.btor2.specs.SortRule.{Judged, has_sort, is, judge, no_line, judged, all_right, meets_sort_rule}
use Rattle.btor2.proofs.LineIs.{line_is}
use Rattle.btor2.specs.Value.{Value, number, Env, eval_op, values, value}
use Rattle.btor2.proofs.Sort.{same_sort_lem}
use Rattle.btor2.proofs.SortRule.{both, mark_line}
use Rattle.builder.specs.Lines.{place_after}
use Rattle.lowering_laws.proofs.Template.{Role, Ref, resolve}
use Rattle.meaning.proofs.Walk.{placed, look, read, whole, seen}
use Rattle.meaning.proofs.Roles.{sort_of, known, sorts, sort_at, has}
use Rattle.meaning.proofs.Agrees.{vals, val_at}

-- a line of a sort is in the list
pub inside : (s : NodeType) (xs : List (Op ℕ)) (p : ℕ) → T (line_is s xs p) → p < length xs
unfolding line_is carried
inside s xs p h = elim (dec_lt p (length xs)) [ yes l ↦ l | no l ↦ absurd (subst (λ o. T (has_sort s (carried o))) (get_or-eq_default xs unknown {n = p} (omega arith)) h) ]

has_is : (s : NodeType) (m : Option NodeType) → T (has_sort s m) → m ≡ Some s
has_is s (Some t) h = ap Some (sym (same_sort_lem s t h))
has_is s None h = absurd h

right-append : (is js : List Judged) → T (all_right is) → T (all_right js) → T (all_right (is ++ js))
unfolding all_right
right-append [] js h k = k
right-append (i ∷ is) js h k = join i.right _ (both i.right (all_right is) h).0 (right-append is js (both i.right (all_right is) h).1 k)
  where
    join : (a b : Bool) → T a → T b → T (a && b)
    join true b h k = k
    join false b h k = h

module _ (xs : List (Op ℕ)) (ρ : Role → ℕ) (ok : (r : Role) → T (line_is (sort_of r) xs (ρ r))) where
  abbrev pub is_state : Role → Bool
  is_state r = (get_or (judged xs) (ρ r) no_line).mark.is_state

  abbrev pub is_right : Role → Bool
  is_right r = (get_or (judged xs) (ρ r) no_line).right

  place_in : (r : Role) → ρ r < length xs
  place_in r = inside (sort_of r) xs (ρ r) (ok r)

  marked : (r : Role) → T (is (sort_of r) (get_or (judged xs) (ρ r) no_line).mark)
  marked r = subst T (sym (mark_line (sort_of r) xs (ρ r))) (ok r)

  as_known : (λ r. get_or (judged xs) (ρ r) no_line) ≡ known (length xs) is_state is_right
  as_known =
      fun_ext (λ r. λ i. record {
        mark = record { sort = has_is (sort_of r) (get_or (judged xs) (ρ r) no_line).mark.sort (marked r) i; is_state = is_state r };
        right = is_right r;
      })

  abbrev pub own : List (Op Ref) → List Judged
  own os = sorts (length xs) is_state is_right os

  abbrev pub after : List (Op Ref) → List (Op ℕ)
  after os = xs ++ placed ρ (length xs) os

  judged_after : (os : List (Op Ref)) → judged (after os) ≡ judged xs ++ own os
  unfolding judged sorts
  judged_after os =
      whole Judged no_line judge xs ρ place_in os
      ∙ ap (λ c. judged xs ++ read Judged no_line judge (length xs) c [] os) as_known

  pub sorted_after : (os : List (Op Ref)) → T (meets_sort_rule xs) → T (all_right (own os)) → T (meets_sort_rule (after os))
  unfolding meets_sort_rule
  sorted_after os h k = subst (λ l. T (all_right l)) (sym (judged_after os)) (right-append (judged xs) (own os) h k)

  mark_after : (os : List (Op Ref)) (x : Ref) → get_or (judged (after os)) (resolve ρ (place_after (length xs)) x) no_line ≡ sort_at (length xs) is_state is_right (own os) x
  unfolding judged sorts sort_at
  mark_after os x =
      seen Judged no_line judge xs ρ place_in os x
      ∙ ap (λ c. look Judged no_line judge c (read Judged no_line judge (length xs) c [] os) x) as_known

  pub has_after : (os : List (Op Ref)) (s : NodeType) (x : Ref) → T (has (length xs) is_state is_right s (own os) x)
      → T (line_is s (after os) (resolve ρ (place_after (length xs)) x))
  has_after os s x h =
      subst T (mark_line s (after os) (resolve ρ (place_after (length xs)) x)) (subst (λ j. T (is s j.mark)) (sym (mark_after os x)) h)

  module _ (env : Env) where
    abbrev pub of_role : Role → Value
    of_role r = value env xs (ρ r)

    pub value_after : (os : List (Op Ref)) (x : Ref)
        → value env (after os) (resolve ρ (place_after (length xs)) x) ≡ val_at env (length xs) of_role (vals env (length xs) of_role os) x
    unfolding value values vals val_at
    value_after os x = seen Value (number 0) (eval_op env) xs ρ place_in os x
