-- The sort rule over the lines of the words is that of each record, its operands' marks being those of earlier records. Assumes nothing.
use Prim.Native.Nat.{ℕ, zero, suc, ◌≤◌, ◌<◌}
use mathlib.Core.Path.{◌≡◌, refl, sym, ◌∙◌, ap, fun_ext}
use mathlib.Core.Bool.{Bool, true, false, ◌&&◌, ◌||◌, and-true, and_assoc}
use mathlib.Core.Bool as B
use mathlib.Core.List.{List, [], ◌∷◌, ◌++◌, map-append}
use native.Mathlib.Omega.{arith}
use borrow.Author.Tests.{lt-ltb, le-ltb}
use lib.ListN.{length, get_or, get_or-eq_default}
use Rattle.bitvec.proofs.Base.{by_le}
use Rattle.btor2.specs.Op.{Op, map_op, unknown, carried}
use Rattle.btor2.specs.Walk.{walk}
use Rattle.btor2.specs.SortRule.{Mark, mark_of, is_state_op, rule, Judged, judge, no_line, judged, all_right, meets_sort_rule}
use Rattle.btor2.proofs.Op.{map_op-map_op}
use Rattle.btor2.proofs.Walk.{walk-append}
use Rattle.btor2.proofs.SortRule.{mark_at_lem}
use Rattle.btor2_list.specs.Record.{capacity}
use Rattle.btor2_list.specs.Node.{Node}
use Rattle.btor2_list.specs.View.{view}
use Rattle.list_check.specs.Lines.{ops, op_at, some}
use Rattle.list_check.proofs.Formed.{said, op_at_lem, ops-length}
use Rattle.list_check.proofs.Some.{some_same}
use Rattle.sort_check.specs.Marks.{mark_at}

-- ---- one more line

right-append : (is js : List Judged) → all_right (is ++ js) ≡ (all_right is && all_right js)
unfolding all_right
right-append [] js = refl
right-append (i ∷ is) js = ap (λ (b : Bool). i.right && b) (right-append is js) ∙ sym (and_assoc i.right (all_right is) (all_right js))

-- the rule of a line after others, its operands being theirs
abbrev pub right_behind : List (Op ℕ) → Op ℕ → Bool
right_behind xs o = rule (map_op (λ q. mark_of (op_at xs q)) o)

pub meets_behind : (xs : List (Op ℕ)) (o : Op ℕ) → meets_sort_rule (xs ++ (o ∷ [])) ≡ (meets_sort_rule xs && right_behind xs o)
unfolding meets_sort_rule judged judge walk all_right
meets_behind xs o =
    ap all_right (walk-append Judged no_line judge [] xs (o ∷ []))
    ∙ right-append (judged xs) _
    ∙ ap (λ (b : Bool). all_right (judged xs) && b)
    (and-true _ ∙ ap rule (map_op-map_op (λ (j : Judged). j.mark) (λ q. get_or (judged xs) q no_line) o ∙ ap (λ (f : ℕ → Mark). map_op f o) (fun_ext (mark_at_lem xs))))

-- ---- the lines of the words

ops_more : (ws : List ℕ) (n : ℕ) → ops (view ws (suc n)) ≡ ops (view ws n) ++ (said ws n ∷ [])
unfolding view
ops_more ws n = map-append (λ (x : Node). x.op) (view ws n) _

not_or : (a b : Bool) → B.not (a || B.not b) ≡ (B.not a && b)
not_or true b = refl
not_or false true = refl
not_or false false = refl

by_lines : (ws : List ℕ) (n : ℕ) → meets_sort_rule (ops (view ws n)) ≡ B.not (some n (λ p. B.not (right_behind (ops (view ws p)) (said ws p))))
unfolding some meets_sort_rule judged walk all_right view
by_lines ws zero = refl
by_lines ws (suc n) =
    ap meets_sort_rule (ops_more ws n)
    ∙ meets_behind (ops (view ws n)) (said ws n)
    ∙ ap (λ (b : Bool). b && right_behind (ops (view ws n)) (said ws n)) (by_lines ws n)
    ∙ sym (not_or (some n (λ p. B.not (right_behind (ops (view ws p)) (said ws p)))) (right_behind (ops (view ws n)) (said ws n)))

-- the record at place p breaks the rule
abbrev pub record_broken : List ℕ → ℕ → Bool
record_broken ws p = B.not (rule (map_op (mark_at ws p) (said ws p)))

-- the marks that a line sees are those of the earlier records
marks : (ws : List ℕ) (p : ℕ) → p ≤ capacity (length ws) → (q : ℕ) → mark_of (op_at (ops (view ws p)) q) ≡ mark_at ws p q
unfolding carried is_state_op
marks ws p room q =
    by_le p q
    (λ l. let past : length (ops (view ws p)) ≤ q = rw (ops-length ws p) l in rw (le-ltb q p l, get_or-eq_default (ops (view ws p)) unknown past))
    (λ l. let there : q < capacity (length ws) = omega arith in rw (lt-ltb q p l, lt-ltb q (capacity (length ws)) there, op_at_lem ws p q l))

pub by_records : (ws : List ℕ) (n : ℕ) → n ≤ capacity (length ws) → B.not (meets_sort_rule (ops (view ws n))) ≡ some n (record_broken ws)
by_records ws n room =
    ap B.not (by_lines ws n)
    ∙ B.not-not _
    ∙ some_same n (λ p. B.not (right_behind (ops (view ws p)) (said ws p))) (record_broken ws)
    (λ p h. ap (λ (f : ℕ → Mark). B.not (rule (map_op f (said ws p)))) (fun_ext (marks ws p (omega arith))))
