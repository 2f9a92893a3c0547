-- Where the answer is a value, it is the line's (btor2/specs/Value) under the values that the records give, and within the limit. Assumes nothing.
use Prim.Native.Nat.{ℕ, zero, suc, ◌+◌, ◌<◌, ◌≤◌}
use mathlib.Core.Path.{◌≡◌, refl, sym, ◌∙◌, ap, ap₂}
use mathlib.Core.Bool.{Bool, true, false, cond}
use mathlib.Core.List.{List, [], ◌∷◌, ◌++◌}
use native.Mathlib.Omega.{arith}
use borrow.Author.Tests.{lt-ltb, le-ltb}
use lib.Dec.{eqb}
use lib.ListN.{length, get_or}
use Rattle.bitvec.specs.Smtlib.{bit, bvnot, bvcomp, zero_extend}
use Rattle.bitvec.specs.Smtlib as Smt
use Rattle.bitvec.proofs.Base.{by_le}
use Rattle.btor2.specs.Op.{Op, map_op, const, read, write, bin, uext, ite, eq, and, or, not, state, state_init, next, input, bad, unknown}
use Rattle.btor2.specs.Sort.{width}
use Rattle.btor2.specs.Walk.{walk}
use Rattle.btor2.specs.SortRule.{judge}
use Rattle.btor2.specs.Value.{number, store, binary, Env, eval_op, values, value}
use Rattle.btor2.specs.Value as Val
use Rattle.btor2_list.specs.View.{view}
use Rattle.list_check.specs.Lines.{ops}
use Rattle.evaluation.specs.Given.{given_env}
use Rattle.evaluation.specs.Answer.{Evaluated, Refused, Value}
use Rattle.evaluation.specs.Evaluation.{after_value, Looks, one, both, look_of, ill_sorted, too_many_visits, unfit_asked, visit, looks_of, no_looks, looks, looks_at, unfit, evaluated_within}
use Rattle.evaluation_laws.specs.Laws.{IsTheValue, GivesTheValue}

-- a value that is found is the number, or the word of the array, and its visits are within the limit
pub record Told (limit : ℕ) (l : Looks) (v : Val.Value) : Type 0 where
  pub num : (n x k : ℕ) → n ≤ limit → l.num n ≡ Value x k → (x ≡ v.num) × (k ≤ limit)
  pub cell : (a n x k : ℕ) → n ≤ limit → l.cell a n ≡ Value x k → (x ≡ v.mem a) × (k ≤ limit)

never : {P : Type 0} (r x k : ℕ) → Refused r ≡ Value x k → P
never r x k e = cc

-- what is there
settled : {limit : ℕ} (x y n k : ℕ) → n ≤ limit → Value y n ≡ Value x k → (x ≡ y) × (k ≤ limit)
settled x y n k h e = let z : k ≡ n = cc in (cc, omega arith)

-- what came before a value
came : {P : Type 0} (A : Evaluated) (f : ℕ → ℕ → Evaluated) (x k : ℕ) → after_value A f ≡ Value x k → ((y j : ℕ) → A ≡ Value y j → f y j ≡ Value x k → P) → P
unfolding after_value
came (Value y j) f x k e then = then y j refl e
came (Refused r) f x k e then = never r x k e

visited : {P : Type 0} (limit : ℕ) (right : Bool) (f : ℕ → Evaluated) (n x k : ℕ) → visit limit right f n ≡ Value x k → (n < limit → f (n + 1) ≡ Value x k → P) → P
visited {P} limit right f n x k e then = by_le limit n (λ h. never too_many_visits x k (rw (le-ltb n limit h) at e)) (λ h. go right h (rw (lt-ltb n limit h) at e))
  where
    go : (r : Bool) → n < limit → cond r (f (n + 1)) (Refused ill_sorted) ≡ Value x k → P
    go true h w = then h w
    go false h w = never ill_sorted x k w

-- one value, and two, one after the other
single : {limit : ℕ} (f : ℕ → ℕ) {a : Looks} {u : Val.Value} → Told limit a u → (n x k : ℕ) → n ≤ limit → (one f a).num n ≡ Value x k → (x ≡ f u.num) × (k ≤ limit)
unfolding one
single f {a} ta n x k h e =
    came (a.num n) _ x k e λ y j ey e'.
    let t = ta.num n y j h ey in
    let s = settled x (f y) j k t.1 e' in
    (s.0 ∙ ap f t.0, s.1)

joined : {limit : ℕ} (f : ℕ → ℕ → ℕ) {a b : Looks} {u w : Val.Value} → Told limit a u → Told limit b w → (n x k : ℕ) → n ≤ limit → (both f a b).num n ≡ Value x k
    → (x ≡ f u.num w.num) × (k ≤ limit)
unfolding both
joined f {a} {b} ta tb n x k h e =
    came (a.num n) _ x k e λ y j ey e'.
    came (b.num j) _ x k e' λ z m ez e''.
    let t = ta.num n y j h ey in
    let r = tb.num j z m t.1 ez in
    let s = settled x (f y z) m k r.1 e'' in
    (s.0 ∙ ap₂ f t.0 r.0, s.1)

-- a branch
branch : {limit : ℕ} (x y : ℕ) (a b : Evaluated) (u w r : ℕ) {k : ℕ} → y ≡ x → Smt.ite x a b ≡ Value r k → (a ≡ Value r k → (r ≡ u) × (k ≤ limit)) → (b ≡ Value r k → (r ≡ w) × (k ≤ limit))
    → (r ≡ Smt.ite y u w) × (k ≤ limit)
unfolding Smt.ite
branch {limit} x y a b u w r {k} q e ta tb = rw q (go (eqb x 1) e)
  where
    go : (t : Bool) → elim t as (λ _. Evaluated) [ true ↦ a | false ↦ b ] ≡ Value r k → (r ≡ elim t as (λ _. ℕ) [ true ↦ u | false ↦ w ]) × (k ≤ limit)
    go true h = ta h
    go false h = tb h

pub ite_num : (x : ℕ) (u w : Val.Value) → (Smt.ite x u w).num ≡ Smt.ite x u.num w.num
unfolding Smt.ite
ite_num x u w = go (eqb x 1)
  where
    go : (t : Bool) → (elim t as (λ _. Val.Value) [ true ↦ u | false ↦ w ]).num ≡ elim t as (λ _. ℕ) [ true ↦ u.num | false ↦ w.num ]
    go true = refl
    go false = refl

pub ite_mem : (x a : ℕ) (u w : Val.Value) → (Smt.ite x u w).mem a ≡ Smt.ite x (u.mem a) (w.mem a)
unfolding Smt.ite
ite_mem x a u w = go (eqb x 1)
  where
    go : (t : Bool) → (elim t as (λ _. Val.Value) [ true ↦ u | false ↦ w ]).mem a ≡ elim t as (λ _. ℕ) [ true ↦ u.mem a | false ↦ w.mem a ]
    go true = refl
    go false = refl

-- a write that covers the cell, or not
written : {limit : ℕ} (a y : ℕ) (c d : Evaluated) (u : ℕ) (m : ℕ → ℕ) (x z : ℕ) {k : ℕ} → z ≡ y → cond (eqb a y) c d ≡ Value x k → (c ≡ Value x k → (x ≡ u) × (k ≤ limit))
    → (d ≡ Value x k → (x ≡ m a) × (k ≤ limit)) → (x ≡ store m z u a) × (k ≤ limit)
unfolding Smt.ite bvcomp bit
written {limit} a y c d u m x z {k} q e tc td = rw q (go (eqb a y) e)
  where
    go : (t : Bool) → cond t c d ≡ Value x k → (x ≡ elim (eqb (bit t) 1) as (λ _. ℕ) [ true ↦ u | false ↦ m a ]) × (k ≤ limit)
    go true h = tc h
    go false h = td h

module _ (limit : ℕ) (env : Env) (p : ℕ) (f : ℕ → Looks) (g : ℕ → Val.Value) (told : (q : ℕ) → Told limit (f q) (g q)) where
  number_told : (o : Op ℕ) (n x k : ℕ) → n ≤ limit → (look_of env p (map_op f o)).num n ≡ Value x k → (x ≡ (eval_op env p (map_op g o)).num) × (k ≤ limit)
  unfolding look_of eval_op map_op zero_extend
  number_told (const s c) n x k h e = settled x c n k h e
  number_told (read m a) n x k h e =
      came ((f a).num n) _ x k e λ y j ey e'.
      let t = (told a).num n y j h ey in
      let r = (told m).cell y j x k t.1 e' in
      (r.0 ∙ ap (g m).mem t.0, r.1)
  number_told (write m a v) n x k h e = settled x 0 n k h e
  number_told (bin o a b) n x k h e = joined (binary o) (told a) (told b) n x k h e
  number_told (uext s a) n x k h e = single zero_extend (told a) n x k h e
  number_told (ite s c a b) n x k h e =
      came ((f c).num n) _ x k e λ y j ey e'.
      let t = (told c).num n y j h ey in
      let r = branch y (g c).num ((f a).num j) ((f b).num j) (g a).num (g b).num x (sym t.0) e' ((told a).num j x k t.1) ((told b).num j x k t.1) in
      (r.0 ∙ sym (ite_num (g c).num (g a) (g b)), r.1)
  number_told (eq a b) n x k h e = joined bvcomp (told a) (told b) n x k h e
  number_told (and s a b) n x k h e = joined _ (told a) (told b) n x k h e
  number_told (or s a b) n x k h e = joined _ (told a) (told b) n x k h e
  number_told (not s a) n x k h e = single (bvnot (width s)) (told a) n x k h e
  number_told (state s m) n x k h e = settled x _ n k h e
  number_told (state_init s a m) n x k h e = settled x _ n k h e
  number_told (next s a b) n x k h e = settled x 0 n k h e
  number_told (input s m) n x k h e = settled x _ n k h e
  number_told (bad a m) n x k h e = settled x 0 n k h e
  number_told unknown n x k h e = settled x 0 n k h e

  cell_told : (o : Op ℕ) (a n x k : ℕ) → n ≤ limit → (look_of env p (map_op f o)).cell a n ≡ Value x k → (x ≡ (eval_op env p (map_op g o)).mem a) × (k ≤ limit)
  unfolding look_of one both eval_op map_op
  cell_told (write m b v) a n x k h e =
      came ((f b).num n) _ x k e λ y j ey e'.
      let t = (told b).num n y j h ey in
      written a y ((f v).num j) ((f m).cell a j) (g v).num (g m).mem x (g b).num (sym t.0) e' ((told v).num j x k t.1) ((told m).cell a j x k t.1)
  cell_told (ite s c l r) a n x k h e =
      came ((f c).num n) _ x k e λ y j ey e'.
      let t = (told c).num n y j h ey in
      let b = branch y (g c).num ((f l).cell a j) ((f r).cell a j) ((g l).mem a) ((g r).mem a) x (sym t.0) e' ((told l).cell a j x k t.1) ((told r).cell a j x k t.1) in
      (b.0 ∙ sym (ite_mem (g c).num a (g l) (g r)), b.1)
  cell_told (state s m) a n x k h e = settled x _ n k h e
  cell_told (state_init s i m) a n x k h e = settled x _ n k h e
  cell_told (input s m) a n x k h e = settled x _ n k h e
  cell_told (const s c) a n x k h e = settled x 0 n k h e
  cell_told (read m b) a n x k h e = settled x 0 n k h e
  cell_told (bin o b c) a n x k h e = settled x 0 n k h e
  cell_told (uext s b) a n x k h e = settled x 0 n k h e
  cell_told (eq b c) a n x k h e = settled x 0 n k h e
  cell_told (and s b c) a n x k h e = settled x 0 n k h e
  cell_told (or s b c) a n x k h e = settled x 0 n k h e
  cell_told (not s b) a n x k h e = settled x 0 n k h e
  cell_told (next s b c) a n x k h e = settled x 0 n k h e
  cell_told (bad b m) a n x k h e = settled x 0 n k h e
  cell_told unknown a n x k h e = settled x 0 n k h e

  line_told : (o : Op ℕ) → Told limit (looks_of limit env p (map_op f o)) (eval_op env p (map_op g o))
  unfolding looks_of
  line_told o =
      let right = (judge p (map_op (λ (l : Looks). l.judged) (map_op f o))).right in
      record {
        num = λ n x k h e. visited limit right (look_of env p (map_op f o)).num n x k e λ l w. number_told o (n + 1) x k (omega arith) w;
        cell = λ a n x k h e. visited limit right ((look_of env p (map_op f o)).cell a) n x k e λ l w. cell_told o a (n + 1) x k (omega arith) w;
      }

-- ---- over a list

module _ (limit : ℕ) where
  data Alike : List Looks → List Val.Value → Type 0 where
    none : Alike [] []
    also : {l : Looks} {v : Val.Value} {ls : List Looks} {vs : List Val.Value} → Told limit l v → Alike ls vs → Alike (l ∷ ls) (v ∷ vs)

  then : {ls : List Looks} {vs : List Val.Value} → Alike ls vs → {l : Looks} {v : Val.Value} → Told limit l v → Alike (ls ++ (l ∷ [])) (vs ++ (v ∷ []))
  then none t = also t none
  then (also h a) t = also h (then a t)

  alike_at : {ls : List Looks} {vs : List Val.Value} → Alike ls vs → (p : ℕ) → Told limit (get_or ls p no_looks) (get_or vs p (number 0))
  alike_at none p = record { num = λ n x k h e. settled x 0 n k h e; cell = λ a n x k h e. settled x 0 n k h e }
  alike_at (also h a) zero = h
  alike_at (also h a) (suc p) = alike_at a p

  alike_length : {ls : List Looks} {vs : List Val.Value} → Alike ls vs → length ls ≡ length vs
  alike_length none = refl
  alike_length (also h a) = ap suc (alike_length a)

  alike_walk : (env : Env) {ls : List Looks} {vs : List Val.Value} → Alike ls vs → (xs : List (Op ℕ))
      → Alike (walk Looks no_looks (looks_of limit env) ls xs) (walk Val.Value (number 0) (eval_op env) vs xs)
  unfolding walk
  alike_walk env a [] = a
  alike_walk env {ls} {vs} a (o ∷ xs) =
      alike_walk env
      {ls = ls ++ (looks_of limit env (length ls) (map_op (λ p. get_or ls p no_looks) o) ∷ [])}
      {vs = vs ++ (eval_op env (length vs) (map_op (λ p. get_or vs p (number 0)) o) ∷ [])}
      (then a next_told)
      xs
    where
      next_told : Told limit (looks_of limit env (length ls) (map_op (λ p. get_or ls p no_looks) o)) (eval_op env (length vs) (map_op (λ p. get_or vs p (number 0)) o))
      next_told = rw (← alike_length a) (line_told limit env (length ls) (λ q. get_or ls q no_looks) (λ q. get_or vs q (number 0)) (alike_at a) o)

pub looks_value : (limit : ℕ) (env : Env) (xs : List (Op ℕ)) (p : ℕ) → Told limit (looks_at limit env xs p) (value env xs p)
unfolding looks value values
looks_value limit env xs p = alike_at limit (alike_walk limit env none xs) p

-- the theorem
pub gives_the_value : GivesTheValue
unfolding evaluated_within
gives_the_value limit ws n vs ms p x k = go (unfit ws n p)
  where
    go : (t : Bool) → cond t (Refused unfit_asked) ((looks_at limit (given_env vs ms) (ops (view ws n)) p).num 0) ≡ Value x k → IsTheValue limit ws n vs ms p x k
    go true e = never unfit_asked x k e
    go false e = let t = (looks_value limit (given_env vs ms) (ops (view ws n)) p).num 0 x k (omega arith) e in record { same = t.0; within = t.1 }
