-- Where every line meets the sort rule, the visits that a line takes are a number that no limit changes: within a limit that is as large its
-- value comes, within a lower one 18. Assumes nothing.
use Prim.Native.Nat.{ℕ, zero, suc, ◌+◌, ◌<◌, ◌≤◌}
use mathlib.Core.Path.{◌≡◌, refl, ◌∙◌, ap, ap₂, fun_ext}
use mathlib.Core.Bool.{Bool, true, false, cond}
use mathlib.Core.List.{List, [], ◌∷◌, ◌++◌}
use native.Mathlib.Nat.{zero-add}
use native.Mathlib.Omega.{arith}
use borrow.Author.Tests.{lt-ltb, le-ltb}
use lib.Dec.{T, eqb}
use lib.ListN.{length, get_or}
use Rattle.bitvec.proofs.Truth.{is_true}
use Rattle.bitvec.specs.Smtlib.{bit, bvnot, bvand, bvor, bvcomp, zero_extend}
use Rattle.bitvec.specs.Smtlib as Smt
use Rattle.bitvec.proofs.Base.{by_le}
use Rattle.btor2.specs.Op.{Op, map_op, const, read, write, bin, uext, ite, eq, and, or, not, state, state_init, next, input, bad, unknown}
use Rattle.btor2.specs.Sort.{width}
use Rattle.btor2.specs.Walk.{walk}
use Rattle.btor2.specs.SortRule.{Judged, judge, no_line, judged, all_right, meets_sort_rule}
use Rattle.btor2.specs.Value.{number, store, binary, Env, of_sort, eval_op}
use Rattle.btor2.specs.Value as Val
use Rattle.btor2.proofs.Op.{map_op-map_op}
use Rattle.btor2.proofs.SortRule.{right_next}
use Rattle.btor2_list.specs.View.{view}
use Rattle.list_check.specs.Lines.{ops}
use Rattle.evaluation.specs.Given.{given_env}
use Rattle.evaluation.specs.Answer.{Evaluated, Refused, Value}
use Rattle.evaluation.specs.Evaluation.{after_value, Looks, one, both, look_of, too_many_visits, visit, looks_of, no_looks, looks, looks_at, evaluated_within}
use Rattle.evaluation_laws.specs.Laws.{AnswersWhereRight}
use Rattle.evaluation_laws.proofs.Law.{ite_num, ite_mem, gives_the_value}

-- ---- looks that take k visits and give x, whatever the limit allows

pub record Takes (limit : ℕ) (f : ℕ → Evaluated) (x k : ℕ) : Type 0 where
  pub comes : (n : ℕ) → n + k ≤ limit → f n ≡ Value x (n + k)
  pub over : (n : ℕ) → n ≤ limit → limit < n + k → f n ≡ Refused too_many_visits

module _ {limit : ℕ} where
  -- a value that is there
  at_hand : (x : ℕ) → Takes limit (λ n. Value x n) x 0
  at_hand x = record {
    comes = λ n h. let z : n ≡ n + 0 = omega arith in ap (Value x) z;
    over = λ n h l. absurd (omega arith);
  }

  -- one after the other
  after : (f : ℕ → Evaluated) (g : ℕ → ℕ → Evaluated) {x k y m : ℕ} → Takes limit f x k → Takes limit (g x) y m → Takes limit (λ n. after_value (f n) g) y (k + m)
  unfolding after_value
  after f g {x} {k} {y} {m} a b = record {
    comes = λ n h.
        let z : n + k + m ≡ n + (k + m) = omega arith in
        ap (λ (e : Evaluated). after_value e g) (a.comes n (omega arith)) ∙ b.comes (n + k) (omega arith) ∙ ap (Value y) z;
    over = λ n h l.
        by_le (n + k) limit
        (λ i. ap (λ (e : Evaluated). after_value e g) (a.comes n i) ∙ b.over (n + k) i (omega arith))
        (λ i. ap (λ (e : Evaluated). after_value e g) (a.over n h i));
  }

  -- the chosen branch
  chosen : (c : ℕ) (f g : ℕ → Evaluated) {x k y m : ℕ} → Takes limit f x k → Takes limit g y m → Takes limit (λ n. Smt.ite c (f n) (g n)) (Smt.ite c x y) (Smt.ite c k m)
  unfolding Smt.ite
  chosen c f g {x} {k} {y} {m} a b = go (eqb c 1)
    where
      go : (t : Bool) → Takes limit (λ n. elim t as (λ _. Evaluated) [ true ↦ f n | false ↦ g n ]) (elim t as (λ _. ℕ) [ true ↦ x | false ↦ y ]) (elim t as (λ _. ℕ) [ true ↦ k | false ↦ m ])
      go true = a
      go false = b

  -- the write's value where it covers the cell, or the memory's word
  covered : (t : Bool) (f g : ℕ → Evaluated) {x k y m : ℕ} → Takes limit f x k → Takes limit g y m
      → Takes limit (λ n. cond t (f n) (g n)) (Smt.ite (bit t) x y) (cond t k m)
  unfolding Smt.ite bit
  covered true f g a b = a
  covered false f g a b = b

  -- a visit
  visited : (right : Bool) (f : ℕ → Evaluated) {x k : ℕ} → right ≡ true → Takes limit f x k → Takes limit (visit limit right f) x (1 + k)
  visited right f {x} {k} r a = record {
    comes = λ n h.
        let z : n + 1 + k ≡ n + (1 + k) = omega arith in
        rw (lt-ltb n limit (omega arith), r) (a.comes (n + 1) (omega arith) ∙ ap (Value x) z);
    over = λ n h l. by_le limit n (λ i. rw (le-ltb n limit i)) (λ i. rw (lt-ltb n limit i, r) (a.over (n + 1) (omega arith) (omega arith)));
  }

-- ---- the visits of a line, from those of its operands

-- a line's value, and the visits that its number takes, and its word at an address
record Spent : Type 0 where
  value : Val.Value
  num : ℕ
  cell : ℕ → ℕ

unfoldable num_spent : Op Spent → ℕ
num_spent (const s x) = 0
num_spent (read m a) = a.num + m.cell a.value.num
num_spent (write m a v) = 0
num_spent (bin o a b) = a.num + (b.num + 0)
num_spent (uext s a) = a.num + 0
num_spent (ite s c a b) = c.num + Smt.ite c.value.num a.num b.num
num_spent (eq a b) = a.num + (b.num + 0)
num_spent (and s a b) = a.num + (b.num + 0)
num_spent (or s a b) = a.num + (b.num + 0)
num_spent (not s a) = a.num + 0
num_spent (state s m) = 0
num_spent (state_init s a m) = 0
num_spent (next s a b) = 0
num_spent (input s m) = 0
num_spent (bad a m) = 0
num_spent unknown = 0

unfoldable cell_spent : Op Spent → ℕ → ℕ
cell_spent (const s x) c = 0
cell_spent (read m a) c = 0
cell_spent (write m a v) c = a.num + cond (eqb c a.value.num) v.num (m.cell c)
cell_spent (bin o a b) c = 0
cell_spent (uext s a) c = 0
cell_spent (ite s d a b) c = d.num + Smt.ite d.value.num (a.cell c) (b.cell c)
cell_spent (eq a b) c = 0
cell_spent (and s a b) c = 0
cell_spent (or s a b) c = 0
cell_spent (not s a) c = 0
cell_spent (state s m) c = 0
cell_spent (state_init s a m) c = 0
cell_spent (next s a b) c = 0
cell_spent (input s m) c = 0
cell_spent (bad a m) c = 0
cell_spent unknown c = 0

unfoldable spent_of : Env → ℕ → Op Spent → Spent
spent_of env p o = record { value = eval_op env p (map_op (λ s. s.value) o); num = 1 + num_spent o; cell = λ c. 1 + cell_spent o c }

abbrev no_spent : Spent
no_spent = record { value = number 0; num = 0; cell = λ c. 0 }

-- looks that take the visits of a line
record Fits (limit : ℕ) (l : Looks) (s : Spent) : Type 0 where
  num : Takes limit l.num s.value.num s.num
  cell : (c : ℕ) → Takes limit (l.cell c) (s.value.mem c) (s.cell c)

module _ (limit : ℕ) (env : Env) (p : ℕ) (f : ℕ → Looks) (g : ℕ → Spent) (fits : (q : ℕ) → Fits limit (f q) (g q)) where
  abbrev v : ℕ → Val.Value
  v q = (g q).value

  -- one value, and two
  single : (h : ℕ → ℕ) (a : ℕ) → Takes limit (one h (f a)).num (h (v a).num) ((g a).num + 0)
  unfolding one
  single h a = after (f a).num (λ x k. Value (h x) k) (fits a).num (at_hand (h (v a).num))

  two : (h : ℕ → ℕ → ℕ) (a b : ℕ) → Takes limit (both h (f a) (f b)).num (h (v a).num (v b).num) ((g a).num + ((g b).num + 0))
  unfolding both
  two h a b =
      after (f a).num (λ x k. after_value ((f b).num k) (λ y m. Value (h x y) m)) (fits a).num
      (after (f b).num (λ y m. Value (h (v a).num y) m) (fits b).num (at_hand (h (v a).num (v b).num)))

  number_fits : (o : Op ℕ) → Takes limit (look_of env p (map_op f o)).num (eval_op env p (map_op v o)).num (num_spent (map_op g o))
  unfolding look_of eval_op map_op num_spent zero_extend
  number_fits (const s x) = at_hand x
  number_fits (read m a) = after (f a).num (λ x k. (f m).cell x k) (fits a).num ((fits m).cell (v a).num)
  number_fits (write m a w) = at_hand 0
  number_fits (bin o a b) = two (binary o) a b
  number_fits (uext s a) = single zero_extend a
  number_fits (ite s c a b) =
      rw (ite_num (v c).num (v a) (v b))
      (after (f c).num (λ x k. Smt.ite x ((f a).num k) ((f b).num k)) (fits c).num (chosen (v c).num (f a).num (f b).num (fits a).num (fits b).num))
  number_fits (eq a b) = two bvcomp a b
  number_fits (and s a b) = two bvand a b
  number_fits (or s a b) = two bvor a b
  number_fits (not s a) = single (bvnot (width s)) a
  number_fits (state s m) = at_hand (of_sort s (env p)).num
  number_fits (state_init s a m) = at_hand (of_sort s (env p)).num
  number_fits (next s a b) = at_hand 0
  number_fits (input s m) = at_hand (of_sort s (env p)).num
  number_fits (bad a m) = at_hand 0
  number_fits unknown = at_hand 0

  cell_fits : (o : Op ℕ) (c : ℕ) → Takes limit ((look_of env p (map_op f o)).cell c) ((eval_op env p (map_op v o)).mem c) (cell_spent (map_op g o) c)
  unfolding look_of one both eval_op map_op cell_spent bvcomp
  cell_fits (write m a w) c =
      after (f a).num (λ x k. cond (eqb c x) ((f w).num k) ((f m).cell c k)) (fits a).num
      (covered (eqb c (v a).num) (f w).num ((f m).cell c) (fits w).num ((fits m).cell c))
  cell_fits (ite s d a b) c =
      rw (ite_mem (v d).num c (v a) (v b))
      (after (f d).num (λ x k. Smt.ite x ((f a).cell c k) ((f b).cell c k)) (fits d).num (chosen (v d).num ((f a).cell c) ((f b).cell c) ((fits a).cell c) ((fits b).cell c)))
  cell_fits (const s x) c = at_hand 0
  cell_fits (read m a) c = at_hand 0
  cell_fits (bin o a b) c = at_hand 0
  cell_fits (uext s a) c = at_hand 0
  cell_fits (eq a b) c = at_hand 0
  cell_fits (and s a b) c = at_hand 0
  cell_fits (or s a b) c = at_hand 0
  cell_fits (not s a) c = at_hand 0
  cell_fits (state s m) c = at_hand ((of_sort s (env p)).mem c)
  cell_fits (state_init s a m) c = at_hand ((of_sort s (env p)).mem c)
  cell_fits (next s a b) c = at_hand 0
  cell_fits (input s m) c = at_hand ((of_sort s (env p)).mem c)
  cell_fits (bad a m) c = at_hand 0
  cell_fits unknown c = at_hand 0

  line_fits : (o : Op ℕ) → (judge p (map_op (λ (l : Looks). l.judged) (map_op f o))).right ≡ true → Fits limit (looks_of limit env p (map_op f o)) (spent_of env p (map_op g o))
  unfolding looks_of spent_of
  line_fits o r =
      let right = (judge p (map_op (λ (l : Looks). l.judged) (map_op f o))).right in
      rw (map_op-map_op (λ (s : Spent). s.value) g o)
      record {
        num = visited right (look_of env p (map_op f o)).num r (number_fits o);
        cell = λ c. visited right ((look_of env p (map_op f o)).cell c) r (cell_fits o c);
      }

-- ---- over a list

-- the marks are those of the sort rule, so that every line is right where the list meets it
module _ (limit : ℕ) where
  data Alike : List Judged → List Looks → List Spent → Type 0 where
    none : Alike [] [] []
    also : {j : Judged} {l : Looks} {s : Spent} {js : List Judged} {ls : List Looks} {ss : List Spent} → l.judged ≡ j → Fits limit l s → Alike js ls ss → Alike (j ∷ js) (l ∷ ls) (s ∷ ss)

  then : {js : List Judged} {ls : List Looks} {ss : List Spent} → Alike js ls ss → {j : Judged} {l : Looks} {s : Spent} → l.judged ≡ j → Fits limit l s
      → Alike (js ++ (j ∷ [])) (ls ++ (l ∷ [])) (ss ++ (s ∷ []))
  then none e t = also e t none
  then (also d h a) e t = also d h (then a e t)

  fits_at : {js : List Judged} {ls : List Looks} {ss : List Spent} → Alike js ls ss → (p : ℕ) → Fits limit (get_or ls p no_looks) (get_or ss p no_spent)
  fits_at none p = record { num = at_hand 0; cell = λ c. at_hand 0 }
  fits_at (also e h a) zero = h
  fits_at (also e h a) (suc p) = fits_at a p

  judged_at : {js : List Judged} {ls : List Looks} {ss : List Spent} → Alike js ls ss → (p : ℕ) → (get_or ls p no_looks).judged ≡ get_or js p no_line
  judged_at none p = refl
  judged_at (also e h a) zero = e
  judged_at (also e h a) (suc p) = judged_at a p

  lengths : {js : List Judged} {ls : List Looks} {ss : List Spent} → Alike js ls ss → (length ls ≡ length js) × (length ls ≡ length ss)
  lengths none = (refl, refl)
  lengths (also e h a) = let n = lengths a in (ap suc n.0, ap suc n.1)

  -- the next line's mark and whether it is right, and its looks
  module _ (env : Env) {js : List Judged} {ls : List Looks} {ss : List Spent} (a : Alike js ls ss) (o : Op ℕ) where
    judged_next : judge (length ls) (map_op (λ (l : Looks). l.judged) (map_op (λ p. get_or ls p no_looks) o)) ≡ judge (length js) (map_op (λ p. get_or js p no_line) o)
    judged_next = ap₂ judge (lengths a).0 (map_op-map_op (λ (l : Looks). l.judged) (λ p. get_or ls p no_looks) o ∙ ap (λ (f : ℕ → Judged). map_op f o) (fun_ext (judged_at a)))

    judged_same : (looks_of limit env (length ls) (map_op (λ p. get_or ls p no_looks) o)).judged ≡ judge (length js) (map_op (λ p. get_or js p no_line) o)
    unfolding looks_of
    judged_same = judged_next

    next_fits : (judge (length js) (map_op (λ p. get_or js p no_line) o)).right ≡ true
        → Fits limit (looks_of limit env (length ls) (map_op (λ p. get_or ls p no_looks) o)) (spent_of env (length ss) (map_op (λ p. get_or ss p no_spent) o))
    next_fits r =
        rw (← (lengths a).1)
        (line_fits limit env (length ls) (λ q. get_or ls q no_looks) (λ q. get_or ss q no_spent) (fits_at a) o (ap (λ (j : Judged). j.right) judged_next ∙ r))

  alike_walk : (env : Env) {js : List Judged} {ls : List Looks} {ss : List Spent} → Alike js ls ss → (xs : List (Op ℕ)) → T (all_right (walk Judged no_line judge js xs))
      → Alike (walk Judged no_line judge js xs) (walk Looks no_looks (looks_of limit env) ls xs) (walk Spent no_spent (spent_of env) ss xs)
  unfolding walk
  alike_walk env a [] h = a
  alike_walk env {js} {ls} {ss} a (o ∷ xs) h =
      alike_walk env
      {js = js ++ (judge (length js) (map_op (λ p. get_or js p no_line) o) ∷ [])}
      {ls = ls ++ (looks_of limit env (length ls) (map_op (λ p. get_or ls p no_looks) o) ∷ [])}
      {ss = ss ++ (spent_of env (length ss) (map_op (λ p. get_or ss p no_spent) o) ∷ [])}
      (then a (judged_same env a o) (next_fits env a o (is_true _ (right_next js o xs h))))
      xs
      h

-- ---- the theorem

pub answers_where_right : AnswersWhereRight
unfolding meets_sort_rule judged looks evaluated_within
answers_where_right ws n vs ms p rule fit =
    let xs = ops (view ws n) in
    let env = given_env vs ms in
    let s = get_or (walk Spent no_spent (spent_of env) [] xs) p no_spent in
    let fits : (limit : ℕ) → Fits limit (looks_at limit env xs p) s = λ limit. fits_at limit (alike_walk limit env none xs rule) p in
    let found : (limit : ℕ) → s.num ≤ limit → evaluated_within limit ws n vs ms p ≡ Value s.value.num s.num = λ limit h. rw fit ((fits limit).num.comes 0 (omega arith) ∙ ap (Value s.value.num) (zero-add s.num)) in
    record {
      visits = s.num;
      comes = λ limit h. found limit h ∙ ap (λ (x : ℕ). Value x s.num) (gives_the_value limit ws n vs ms p _ _ (found limit h)).same;
      over = λ limit h. rw fit ((fits limit).num.over 0 (omega arith) (omega arith));
    }
