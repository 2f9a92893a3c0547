-- The sort rule of a list: what a line is to others is what it says of itself, and lines after a list change nothing in it.
-- Assumes nothing.
use Prim.Native.Nat.{ℕ, zero, suc, ◌<◌}
use mathlib.Core.Path.{◌≡◌, refl, sym, ◌∙◌, ap, subst}
use mathlib.Core.Bool.{Bool, true, false, ◌&&◌}
use mathlib.Core.List.{List, [], ◌∷◌, ◌++◌, append_assoc}
use lib.Dec.{T}
use lib.ListN.{length, get_or, get_or-append}
use Rattle.btor2.specs.declared.NodeType.{NodeType}
use Rattle.btor2.specs.Op.{Op, map_op, unknown, carried}
use Rattle.btor2.specs.Walk.{walk}
use Rattle.btor2.specs.SortRule.{Mark, mark_of, is_state_op, has_sort, is, Judged, judge, no_line, judged, all_right, meets_sort_rule}
use Rattle.btor2.proofs.LineIs.{line_is}
use Rattle.btor2.proofs.Op.{mark_map}
use Rattle.btor2.proofs.Walk.{more, walk-append, walk_kept}

-- ---- a line's mark

-- marks that are the lines' own, one for one
data Own : List (Op ℕ) → List Judged → Type 0 where
  none : Own [] []
  also : {o : Op ℕ} {j : Judged} {os : List (Op ℕ)} {js : List Judged} → j.mark ≡ mark_of o → Own os js → Own (o ∷ os) (j ∷ js)

behind : {os : List (Op ℕ)} {js : List Judged} → Own os js → (o : Op ℕ) (j : Judged) → j.mark ≡ mark_of o → Own (os ++ (o ∷ [])) (js ++ (j ∷ []))
behind none o j e = also e none
behind (also h l) o j e = also h (behind l o j e)

own_walk : {os : List (Op ℕ)} {js : List Judged} → Own os js → (xs : List (Op ℕ)) → Own (os ++ xs) (walk Judged no_line judge js xs)
unfolding walk judge
own_walk {os = os} {js = js} l [] = rw (mathlib.Core.List.append-nil os) l
own_walk {os = os} {js = js} l (o ∷ xs) =
    rw (append_assoc os (o ∷ []) xs)
    at (own_walk {os = os ++ (o ∷ [])} {js = js ++ (judge (length js) (map_op (λ p. get_or js p no_line) o) ∷ [])} (behind l o (judge (length js) (map_op (λ p. get_or js p no_line) o)) (mark_map (λ p. get_or js p no_line) o)) xs)

own_at : {os : List (Op ℕ)} {js : List Judged} → Own os js → (p : ℕ) → (get_or js p no_line).mark ≡ mark_of (get_or os p unknown)
unfolding carried is_state_op
own_at none p = refl
own_at (also e l) zero = e
own_at (also e l) (suc p) = own_at l p

pub mark_at_lem : (xs : List (Op ℕ)) (p : ℕ) → (get_or (judged xs) p no_line).mark ≡ mark_of (get_or xs p unknown)
unfolding judged
mark_at_lem xs p = own_at (own_walk none xs) p

pub mark_line : (s : NodeType) (xs : List (Op ℕ)) (p : ℕ) → is s (get_or (judged xs) p no_line).mark ≡ line_is s xs p
unfolding line_is
mark_line s xs p = ap (λ (m : Mark). is s m) (mark_at_lem xs p)

-- ---- the rule over a list

right-append : (is js : List Judged) → all_right (is ++ js) ≡ (all_right is && all_right js)
unfolding all_right
right-append [] js = refl
right-append (i ∷ is) js = ap (λ b. i.right && b) (right-append is js) ∙ sym (mathlib.Core.Bool.and_assoc i.right (all_right is) (all_right js))

pub both : (a b : Bool) → T (a && b) → T a × T b
both true b h = (tt, h)
both false b h = (absurd h, absurd h)

-- the lines before, and one more, are right where the whole walk is
pub right_before : (js : List Judged) (xs : List (Op ℕ)) → T (all_right (walk Judged no_line judge js xs)) → T (all_right js)
unfolding walk
right_before js [] h = h
right_before js (o ∷ xs) h = (both (all_right js) _ (subst T (right-append js _) (right_before (more Judged no_line judge js o) xs h))).0

pub right_next : (js : List Judged) (o : Op ℕ) (xs : List (Op ℕ)) → T (all_right (walk Judged no_line judge js (o ∷ xs)))
    → T (judge (length js) (map_op (λ p. get_or js p no_line) o)).right
unfolding walk all_right
right_next js o xs h =
    (both (judge (length js) (map_op (λ p. get_or js p no_line) o)).right true
    (both (all_right js) _ (subst T (right-append js _) (right_before (more Judged no_line judge js o) xs h))).1).0

pub rule_prefix : (xs ys : List (Op ℕ)) → T (meets_sort_rule (xs ++ ys)) → T (meets_sort_rule xs)
unfolding meets_sort_rule judged
rule_prefix xs ys h = right_before (walk Judged no_line judge [] xs) ys (subst (λ l. T (all_right l)) (walk-append Judged no_line judge [] xs ys) h)

-- ---- lines after a list

pub judged_kept : (xs ys : List (Op ℕ)) (p : ℕ) → p < length xs → get_or (judged (xs ++ ys)) p no_line ≡ get_or (judged xs) p no_line
unfolding judged
judged_kept = walk_kept Judged no_line judge

pub line_kept : (s : NodeType) (xs ys : List (Op ℕ)) (p : ℕ) → p < length xs → line_is s (xs ++ ys) p ≡ line_is s xs p
unfolding line_is
line_kept s xs ys p h = ap (λ o. has_sort s (carried o)) (get_or-append xs ys unknown p h)
