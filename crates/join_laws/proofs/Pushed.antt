-- Values of a list with one more line. Assumes nothing.
use Prim.Native.Nat.{ℕ, suc, zero, ◌+◌, ◌%◌, ◌<◌, ◌^◌}
use native.Mathlib.Nat.{zero-add, add-zero}
use native.Mathlib.Omega.{arith}
use mathlib.Core.Path.{◌≡◌, refl, sym, ◌∙◌, ap, subst}
use mathlib.Core.Bool.{Bool, true, false, ◌&&◌}
use mathlib.Core.List.{List, [], ◌∷◌, ◌++◌, append_assoc, append-nil}
use lib.Dec.{eqb}
use lib.ListN.{length, get_or, length-append}
use lib.Seq.{get_or-append-add}
use Rattle.bitvec.specs.Smtlib as Smt
use Rattle.bitvec.specs.Smtlib.{bvand, bvcomp}
use Rattle.btor2.specs.declared.Name.{Name}
use Rattle.btor2.specs.declared.NodeType.{NodeType}
use Rattle.btor2.specs.declared.NodeType.TheVariants.{Bit as B1}
use Rattle.btor2.specs.Op.{Op, map_op, ite, eq, and, state_init}
use Rattle.btor2.specs.Value.{Value, number, Env, eval_op, values, value}
use Rattle.btor2.specs.Walk.{walk}
use Rattle.btor2.proofs.Walk.{walk-append, length-walk}
use Rattle.btor2.proofs.Value.{value_kept}
use Rattle.builder.specs.Prog.{Prog, done, line, ran}
use Rattle.builder.specs.Lines.{lines_of, place_after}
use Rattle.builder.proofs.Result.{result_of}
use Rattle.join_laws.specs.Push.{pushed}
use Rattle.join_laws.proofs.Sound.{Bit}

-- the program's lines after the others
pub pushed_lines : {X : Type 0} (p : Prog ℕ X) (xs : List (Op ℕ)) (n k : ℕ) → length xs ≡ n + k → pushed xs p ≡ ran (xs ++ lines_of (place_after n) k p) (result_of (place_after n) k p)
unfolding lines_of result_of
pushed_lines {X} (done x) xs n k e = ap (λ l. ran l x) (sym (append-nil xs))
pushed_lines {X} (line o f) xs n k e =
    pushed_lines (f (length xs)) (xs ++ (o ∷ [])) n (k + 1) (rw length-append (omega arith))
    ∙ ap (λ j. ran ((xs ++ (o ∷ [])) ++ lines_of (place_after n) (k + 1) (f j)) (result_of (place_after n) (k + 1) (f j))) e
    ∙ ap (λ l. ran l (result_of (place_after n) (k + 1) (f (n + k)))) (append_assoc xs (o ∷ []) _)

pub longer : (xs : List (Op ℕ)) (o : Op ℕ) → length (xs ++ (o ∷ [])) ≡ suc (length xs)
longer xs o = rw length-append (omega arith)

module _ (env : Env) where
  values_length : (xs : List (Op ℕ)) → length (values env xs) ≡ length xs
  unfolding values
  values_length xs = length-walk Value (number 0) (eval_op env) [] xs ∙ zero-add _

  abbrev last : List (Op ℕ) → Op ℕ → ℕ → Value
  last xs o n = eval_op env n (map_op (λ p. get_or (values env xs) p (number 0)) o)

  whole : (xs : List (Op ℕ)) (o : Op ℕ) → values env (xs ++ (o ∷ [])) ≡ values env xs ++ (last xs o (length (values env xs)) ∷ [])
  unfolding values walk
  whole xs o = walk-append Value (number 0) (eval_op env) [] xs (o ∷ [])

  -- the value of the last line
  pub value_last : (xs : List (Op ℕ)) (o : Op ℕ) → value env (xs ++ (o ∷ [])) (length xs) ≡ eval_op env (length xs) (map_op (value env xs) o)
  unfolding value
  value_last xs o =
      ap (λ l. get_or l (length xs) (number 0)) (whole xs o)
      ∙ ap (λ n. get_or (values env xs ++ (last xs o n ∷ [])) (length xs) (number 0)) (values_length xs)
      ∙ subst (λ j. get_or (values env xs ++ (last xs o (length xs) ∷ [])) j (number 0) ≡ last xs o (length xs)) (add-zero _ ∙ values_length xs) (get_or-append-add (values env xs) (last xs o (length xs) ∷ []) 0 (number 0))

  -- by kind
  module _ (xs : List (Op ℕ)) where
    pub value_ite : (s : NodeType) (c a b : ℕ) → value env (xs ++ (ite s c a b ∷ [])) (length xs) ≡ Smt.ite (value env xs c).num (value env xs a) (value env xs b)
    unfolding eval_op map_op
    value_ite s c a b = value_last xs (ite s c a b)

    pub value_and : (s : NodeType) (a b : ℕ) → (value env (xs ++ (and s a b ∷ [])) (length xs)).num ≡ bvand (value env xs a).num (value env xs b).num
    unfolding eval_op map_op
    value_and s a b = ap (λ (v : Value). v.num) (value_last xs (and s a b))

    pub value_eq : (a b : ℕ) → (value env (xs ++ (eq a b ∷ [])) (length xs)).num ≡ bvcomp (value env xs a).num (value env xs b).num
    unfolding eval_op map_op
    value_eq a b = ap (λ (v : Value). v.num) (value_last xs (eq a b))

    pub value_state : (a : ℕ) (m : Name) → (value env (xs ++ (state_init B1 a m ∷ [])) (length xs)).num ≡ (env (length xs)).num % 2 ^ 1
    unfolding eval_op map_op
    value_state a m = ap (λ (v : Value). v.num) (value_last xs (state_init B1 a m))

  pub bit_kept : (xs zs : List (Op ℕ)) {p : ℕ} → Bit env xs p → Bit env (xs ++ zs) p
  bit_kept xs zs {p} b = record {
    place = rw length-append (omega (arith, b.place));
    bound = rw (value_kept env xs zs p b.place) b.bound;
  }

-- And of two bits
pub and_bits : (x y : ℕ) → x < 2 → y < 2 → eqb (bvand x y) 1 ≡ (eqb x 1 && eqb y 1)
unfolding bvand
and_bits zero zero h k = refl
and_bits zero (suc zero) h k = refl
and_bits zero (suc (suc y)) h k = absurd (omega arith)
and_bits (suc zero) zero h k = refl
and_bits (suc zero) (suc zero) h k = refl
and_bits (suc zero) (suc (suc y)) h k = absurd (omega arith)
and_bits (suc (suc x)) y h k = absurd (omega arith)

pub comp_bit : (x y : ℕ) → bvcomp x y < 2
unfolding bvcomp Smt.bit
comp_bit x y = go (eqb x y)
  where
    go : (t : Bool) → Smt.bit t < 2
    go true = omega arith
    go false = omega arith

pub comp_on : (x y : ℕ) → eqb (bvcomp x y) 1 ≡ eqb x y
unfolding bvcomp Smt.bit
comp_on x y = go (eqb x y)
  where
    go : (t : Bool) → eqb (Smt.bit t) 1 ≡ t
    go true = refl
    go false = refl
