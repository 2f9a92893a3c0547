-- What each arm of the evaluation returns and asks. Assumes nothing.
use Rattle.std.proofs.Common.{◌≡◌, ℕ, ◌+◌, ◌*◌, ◌%◌, ◌^◌, ◌<◌, ◌⊎◌, inl, inr, max, cond, eqb, sym, ap, ◌∙◌, subst, refl, arith, eq-eqb, ne_eqb, Result, Ok, Err}
use Rattle.std.specs.Result.{IsErr, IsErrAnd}
use Rattle.refusals.specs.Refusal.{refusal_number}
use Rattle.refusals.specs.declared.Refusal.{Refusal}
use Rattle.bitvec.specs.Smtlib.{bvnot, bvand, bvor, bvcomp, zero_extend}
use Rattle.bitvec.specs.Smtlib as Smt
use Rattle.btor2.specs.declared.Name.{Name}
use Rattle.btor2.specs.declared.NodeRef.{NodeRef}
use Rattle.btor2.specs.declared.NodeType.{NodeType}
use Rattle.btor2.specs.declared.NodeType.TheVariants.{Bit, Word, Memory, Input1Byte, Input2Byte, Input3Byte, Input4Byte, Input5Byte, Input6Byte, Input7Byte}
use Rattle.btor2.specs.Sort.{width}
use Rattle.btor2.specs.Op.{Bin, map_op, const, read, write, bin, uext, ite, eq, and, or, not}
use Rattle.btor2.specs.Value.{of_sort, binary}
use Rattle.btor2.specs.Value as Val
use Rattle.btor2_list.specs.declared.operator.LineOperator.{LineOperator}
use Rattle.btor2_list.specs.declared.operator.LineOperator.TheVariants.{Const, Read, Write, Binary, Ext, Ite, Eq, And, Or, Not, State, StateInit, Next, Input, Bad, Unknown}
use Rattle.btor2_list.specs.Operator.{op_from}
use Rattle.evaluation.specs.declared.Evaluated as Code
use Rattle.evaluation.specs.Answer.{Evaluated, Refused, Value, evaluated_of}
use Rattle.evaluation.specs.Given.{given_value, given_cell}
use Rattle.evaluation.specs.Evaluation.{after_value, Look, there, one, both, look_of}
use Rattle.evaluation_calls.specs.declared.Bench.{Bench}
use Rattle.evaluation_calls.specs.Inside.{env_of, num_from, cell_from, of_both, joined_of, told_by, Entered}

-- ---- what a call asks: a smaller place

pub falls : {t p q room : ℕ} → 2 * p ≡ t → p < room → q < p → (2 * q < t) × (q < room)
falls e h l = (omega arith, omega arith)

pub both_fall : {t p a b room : ℕ} → 2 * p ≡ t → p < room → (a < p) × (b < p) → (2 * max a b + 1 < t) × ((a < room) × (b < room))
both_fall {t} {p} {a} {b} e h l = let i = l.0 in let j = l.1 in (omega arith, (omega arith, omega arith))

-- ---- one after the other

-- N is what comes of A by f
pub record Follows (N A : Evaluated) (f : ℕ → ℕ → Evaluated) : Type 0 where
  pub is : N ≡ after_value A f

-- a refusal that is passed on
pub passed_on : {N A : Evaluated} (r : Refusal) (R : Result Code.Evaluated Refusal) → IsErr R × IsErrAnd R (λ e. e ≡ r) → N ≡ A → Refused (refusal_number r) ≡ A → evaluated_of R ≡ N
passed_on r (Ok x) e n h = absurd e.1
passed_on r (Err q) e n h = ap (λ (x : Refusal). Refused (refusal_number x)) e.1 ∙ h ∙ sym n

pub refused : {N A : Evaluated} {f : ℕ → ℕ → Evaluated} (r : Refusal) (R : Result Code.Evaluated Refusal) → IsErr R × IsErrAnd R (λ e. e ≡ r) → Follows N A f → Refused (refusal_number r) ≡ A
    → evaluated_of R ≡ N
unfolding after_value
refused {f = f} r R e n h = passed_on r R e n.is (ap (λ (a : Evaluated). after_value a f) h)

pub valued : {N A R : Evaluated} {f : ℕ → ℕ → Evaluated} {x k : ℕ} → Follows N A f → Value x k ≡ A → R ≡ f x k → R ≡ N
unfolding after_value
valued {f = f} n h r = r ∙ ap (λ (a : Evaluated). after_value a f) h ∙ sym n.is

-- a branch
pub if_one : {x : ℕ} (a b : Evaluated) → x ≡ 1 → a ≡ Smt.ite x a b
unfolding Smt.ite
if_one {x} a b h = rw (eq-eqb x 1 h, Smt.ite)

pub if_other : {x : ℕ} (a b : Evaluated) → (x ≡ 1 → ⊥) → b ≡ Smt.ite x a b
unfolding Smt.ite
if_other {x} a b h = rw (ne_eqb x 1 h, Smt.ite)

-- a write that covers the cell, or does not
pub covered : {at x : ℕ} (a b : Evaluated) → at ≡ x → a ≡ cond (eqb at x) a b
covered {at} {x} a b h = rw (eq-eqb at x h)

pub uncovered : {at x : ℕ} (a b : Evaluated) → (at ≡ x → ⊥) → b ≡ cond (eqb at x) a b
uncovered {at} {x} a b h = rw (ne_eqb at x h)

-- the same, of a value that is worked out
pub worked_out : {N A : Evaluated} {z w k : ℕ} → z ≡ w → Value w k ≡ A → N ≡ A → Value z k ≡ N
worked_out {k = k} e h n = ap (λ (i : ℕ). Value i k) e ∙ h ∙ sym n

-- two numbers, one after the other
module _ (a b : ℕ → Evaluated) (n : ℕ) where
  pub first_refused : (r : Refusal) (R : Result (Code.Evaluated × Code.Evaluated) Refusal) → IsErr R × IsErrAnd R (λ e. e ≡ r) → Refused (refusal_number r) ≡ a n → (f : ℕ → ℕ → ℕ) → joined_of f R ≡ of_both f a b n
  unfolding of_both after_value
  first_refused r (Ok x) e h f = absurd e.1
  first_refused r (Err q) e h f =
      ap (λ (x : Refusal). Refused (refusal_number x)) e.1 ∙ ap (λ (i : Evaluated). after_value i (λ x k. after_value (b k) (λ y m. Value (f x y) m))) h

  second : {x k : ℕ} {C : Evaluated} → Value x k ≡ a n → C ≡ b k → (f : ℕ → ℕ → ℕ) → after_value C (λ y m. Value (f x y) m) ≡ of_both f a b n
  unfolding of_both after_value
  second {x = x} h g f =
      ap (λ (i : Evaluated). after_value i (λ y m. Value (f x y) m)) g ∙ ap (λ (i : Evaluated). after_value i (λ x k. after_value (b k) (λ y m. Value (f x y) m))) h

  pub second_refused : (r : Refusal) (R : Result (Code.Evaluated × Code.Evaluated) Refusal) {x k : ℕ} → IsErr R × IsErrAnd R (λ e. e ≡ r) → Value x k ≡ a n → Refused (refusal_number r) ≡ b k → (f : ℕ → ℕ → ℕ)
      → joined_of f R ≡ of_both f a b n
  unfolding after_value
  second_refused r (Ok y) e h g f = absurd e.1
  second_refused r (Err q) e h g f = ap (λ (x : Refusal). Refused (refusal_number x)) e.1 ∙ second h g f

  pub two_values : {x k y m : ℕ} → Value x k ≡ a n → Value y m ≡ b k → (f : ℕ → ℕ → ℕ) → Value (f x y) m ≡ of_both f a b n
  unfolding after_value
  two_values h g f = second h g f

-- ---- what the records give

given_num : (b : Bench) (p : ℕ) (s : NodeType) → given_value b.values.now p % 2 ^ width s ≡ (of_sort s (env_of b p)).num
given_num b p Memory = omega arith
given_num b p Bit = refl
given_num b p Word = refl
given_num b p Input1Byte = refl
given_num b p Input2Byte = refl
given_num b p Input3Byte = refl
given_num b p Input4Byte = refl
given_num b p Input5Byte = refl
given_num b p Input6Byte = refl
given_num b p Input7Byte = refl

given_mem : (v : Val.Value) (m : ℕ → ℕ) (s : NodeType) (a : ℕ) → (of_sort s (record { num = 0; mem = m })).mem a ≡ (of_sort s (record { num = v.num; mem = m })).mem a
given_mem v m Memory a = refl
given_mem v m Bit a = refl
given_mem v m Word a = refl
given_mem v m Input1Byte a = refl
given_mem v m Input2Byte a = refl
given_mem v m Input3Byte a = refl
given_mem v m Input4Byte a = refl
given_mem v m Input5Byte a = refl
given_mem v m Input6Byte a = refl
given_mem v m Input7Byte a = refl

-- a line whose value the records give, and its sort
abbrev pub Given : LineOperator → NodeType → Type 0
Given o s = ((m : Name) × (o ≡ State s m)) ⊎ (((a : NodeRef) × (m : Name) × (o ≡ StateInit s a m)) ⊎ ((m : Name) × (o ≡ Input s m)))

told_given : (b : Bench) (p : ℕ) (o : LineOperator) (s : NodeType) → Given o s → told_by b p (op_from o) ≡ there (of_sort s (env_of b p))
unfolding told_by look_of map_op
told_given b p o s (inl (m, e)) = rw e
told_given b p o s (inr (inl (a, m, e))) = rw e
told_given b p o s (inr (inr (m, e))) = rw e

-- a line without a number
abbrev pub Bare : LineOperator → Type 0
Bare o =
    ((m : NodeRef) × (a : NodeRef) × (w : NodeRef) × (o ≡ Write m a w))
    ⊎ (((s : NodeType) × (l : NodeRef) × (r : NodeRef) × (o ≡ Next s l r)) ⊎ (((a : NodeRef) × (m : Name) × (o ≡ Bad a m)) ⊎ (o ≡ Unknown)))

told_bare : (b : Bench) (p v : ℕ) (o : LineOperator) → Bare o → (told_by b p (op_from o)).num v ≡ Value 0 v
unfolding told_by look_of map_op
told_bare b p v o (inl (m, a, w, e)) = rw e
told_bare b p v o (inr (inl (s, l, r, e))) = rw e
told_bare b p v o (inr (inr (inl (a, m, e)))) = rw e
told_bare b p v o (inr (inr (inr e))) = rw e

-- ---- a line that is visited, kind by kind

module _ {b : Bench} {p v : ℕ} where
  -- the kind that a line has
  pub arm : {o o' : LineOperator} → Entered b p v (op_from o) → o ≡ o' → Entered b p v (op_from o')
  arm {o} {o'} e q = let P : LineOperator → Type 0 = λ x. Entered b p v (op_from x) in subst P q e

  pub of_const : {s : NodeType} {x : ℕ} → Entered b p v (const s x) → Value x (v + 1) ≡ num_from b p v
  unfolding told_by look_of map_op
  of_const e = sym e.num

  pub of_read : {m a : ℕ} → Entered b p v (read m a) → Follows (num_from b p v) (num_from b a (v + 1)) (cell_from b m)
  unfolding told_by look_of map_op num_from cell_from
  of_read e = record { is = e.num }

  pub of_bin : {o : Bin} {l r : ℕ} → Entered b p v (bin o l r) → num_from b p v ≡ of_both (binary o) (num_from b l) (num_from b r) (v + 1)
  unfolding told_by look_of map_op both of_both num_from
  of_bin e = e.num

  pub of_ext : {s : NodeType} {a : ℕ} → Entered b p v (uext s a) → num_from b p v ≡ num_from b a (v + 1)
  unfolding told_by look_of map_op one zero_extend num_from after_value
  of_ext {s} {a} e = e.num ∙ same (num_from b a (v + 1))
    where
      same : (A : Evaluated) → after_value A Value ≡ A
      same (Value x k) = refl
      same (Refused r) = refl

  pub of_ite : {s : NodeType} {c l r : ℕ} → Entered b p v (ite s c l r) → Follows (num_from b p v) (num_from b c (v + 1)) (λ x k. Smt.ite x (num_from b l k) (num_from b r k))
  unfolding told_by look_of map_op num_from
  of_ite e = record { is = e.num }

  pub of_eq : {l r : ℕ} → Entered b p v (eq l r) → num_from b p v ≡ of_both bvcomp (num_from b l) (num_from b r) (v + 1)
  unfolding told_by look_of map_op both of_both num_from
  of_eq e = e.num

  pub of_and : {s : NodeType} {l r : ℕ} → Entered b p v (and s l r) → num_from b p v ≡ of_both bvand (num_from b l) (num_from b r) (v + 1)
  unfolding told_by look_of map_op both of_both num_from
  of_and e = e.num

  pub of_or : {s : NodeType} {l r : ℕ} → Entered b p v (or s l r) → num_from b p v ≡ of_both bvor (num_from b l) (num_from b r) (v + 1)
  unfolding told_by look_of map_op both of_both num_from
  of_or e = e.num

  pub of_not : {s : NodeType} {a : ℕ} → Entered b p v (not s a) → Follows (num_from b p v) (num_from b a (v + 1)) (λ x k. Value (bvnot (width s) x) k)
  unfolding told_by look_of map_op one num_from
  of_not e = record { is = e.num }

  pub cell_write : {m a w : ℕ} (at : ℕ) → Entered b p v (write m a w)
      → Follows (cell_from b p at v) (num_from b a (v + 1)) (λ x k. cond (eqb at x) (num_from b w k) (cell_from b m at k))
  unfolding told_by look_of map_op num_from cell_from
  cell_write at e = record { is = e.cell at }

  pub cell_ite : {s : NodeType} {c l r : ℕ} (at : ℕ) → Entered b p v (ite s c l r)
      → Follows (cell_from b p at v) (num_from b c (v + 1)) (λ x k. Smt.ite x (cell_from b l at k) (cell_from b r at k))
  unfolding told_by look_of map_op num_from cell_from
  cell_ite at e = record { is = e.cell at }

  -- the kinds that have no words
  pub no_cell : (o : LineOperator) (at : ℕ) → Entered b p v (op_from o)
      → ((m a w : NodeRef) → o ≡ Write m a w → ⊥) → ((s : NodeType) (c l r : NodeRef) → o ≡ Ite s c l r → ⊥)
      → ((s : NodeType) (m : Name) → o ≡ State s m → ⊥) → ((s : NodeType) (a : NodeRef) (m : Name) → o ≡ StateInit s a m → ⊥) → ((s : NodeType) (m : Name) → o ≡ Input s m → ⊥)
      → Value 0 (v + 1) ≡ cell_from b p at v
  unfolding told_by look_of map_op both one
  no_cell (Const s n) at e w i s' s'' u = sym (e.cell at)
  no_cell (Read m a) at e w i s' s'' u = sym (e.cell at)
  no_cell (Binary o l r) at e w i s' s'' u = sym (e.cell at)
  no_cell (Ext s a) at e w i s' s'' u = sym (e.cell at)
  no_cell (Eq l r) at e w i s' s'' u = sym (e.cell at)
  no_cell (And s l r) at e w i s' s'' u = sym (e.cell at)
  no_cell (Or s l r) at e w i s' s'' u = sym (e.cell at)
  no_cell (Not s a) at e w i s' s'' u = sym (e.cell at)
  no_cell (Next s l r) at e w i s' s'' u = sym (e.cell at)
  no_cell (Bad a m) at e w i s' s'' u = sym (e.cell at)
  no_cell Unknown at e w i s' s'' u = sym (e.cell at)
  no_cell (Write m a z) at e w i s' s'' u = absurd (w m a z refl)
  no_cell (Ite s c l r) at e w i s' s'' u = absurd (i s c l r refl)
  no_cell (State s m) at e w i s' s'' u = absurd (s' s m refl)
  no_cell (StateInit s a m) at e w i s' s'' u = absurd (s'' s a m refl)
  no_cell (Input s m) at e w i s' s'' u = absurd (u s m refl)

  -- a state or an input, by its record
  pub of_given : {o : LineOperator} {s : NodeType} {x : ℕ} → Entered b p v (op_from o) → Given o s → x ≡ given_value b.values.now p % 2 ^ width s → Value x (v + 1) ≡ num_from b p v
  of_given {o} {s} e g h =
      ap (λ (i : ℕ). Value i (v + 1)) (h ∙ given_num b p s) ∙ sym (ap (λ (l : Look). l.num (v + 1)) (told_given b p o s g)) ∙ sym e.num

  pub cell_given : {o : LineOperator} {s : NodeType} {x : ℕ} (at : ℕ) → Entered b p v (op_from o) → Given o s → x ≡ (of_sort s (record { num = 0; mem = given_cell b.memory.now p })).mem at
      → Value x (v + 1) ≡ cell_from b p at v
  cell_given {o} {s} at e g h =
      ap (λ (i : ℕ). Value i (v + 1)) (h ∙ given_mem (env_of b p) (given_cell b.memory.now p) s at) ∙ sym (ap (λ (l : Look). l.cell at (v + 1)) (told_given b p o s g)) ∙ sym (e.cell at)

  pub of_bare : {o : LineOperator} → Entered b p v (op_from o) → Bare o → Value 0 (v + 1) ≡ num_from b p v
  of_bare {o} e g = sym (told_bare b p (v + 1) o g) ∙ sym e.num
