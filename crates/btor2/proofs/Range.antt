-- In a list that meets the sort rule, a line of a sort has a value of that sort: below 2 to its width, or an array of such words.
-- Assumes nothing.
use Prim.Native.Nat.{ℕ, zero, suc, ◌%◌, ◌^◌, ◌<◌}
use native.Mathlib.Nat.{mod-lt, lt_of_lt_of_le}
use mathlib.Core.Path.{◌≡◌, refl, sym, subst}
use mathlib.Core.Bool.{Bool, true, false, cond, ◌&&◌, ◌||◌}
use mathlib.Core.Bool as B
use mathlib.Core.List.{List, [], ◌∷◌, ◌++◌}
use lib.Dec.{T, eqb, ltb→lt}
use lib.Pow.{pow_pos, pow_mono}
use lib.ListN.{length, get_or}
use Rattle.bitvec.specs.Smtlib.{bvcomp, zero_extend}
use Rattle.bitvec.specs.Smtlib as Smt
use Rattle.bitvec.proofs.Base.{shl_fits}
use Rattle.bitvec.proofs.Bounds.{add_fits, sub_fits, mul_fits, not_fits, and_fits, or_fits, udiv_fits, urem_fits, sdiv_fits, lshr_fits, ult_fits, comp_fits}
use Rattle.btor2.specs.declared.NodeType.{NodeType}
use Rattle.btor2.specs.declared.NodeType.TheVariants.{Bit, Word, Memory, Input1Byte, Input2Byte, Input3Byte, Input4Byte, Input5Byte, Input6Byte, Input7Byte}
use Rattle.btor2.specs.Sort.{width, same_sort}
use Rattle.btor2.specs.Op.{Bin, add, sub, mul, udiv, sdiv, urem, sll, srl, ult, Op, const, read, write, bin, uext, ite, eq, and, or, not, state, state_init, next, input, bad, unknown, map_op, carried, bin_sort}
use Rattle.btor2.specs.Walk.{walk}
use Rattle.btor2.specs.SortRule.{has_sort, is, bit_or_word, rule, Judged, judge, no_line, judged, all_right, meets_sort_rule}
use Rattle.btor2.proofs.LineIs.{line_is}
use Rattle.btor2.specs.Value.{Value, number, array, store, binary, Env, of_sort, eval_op, values, value}
use Rattle.btor2.proofs.Sort.{same_sort_lem, width_small}
use Rattle.btor2.proofs.SortRule.{both, right_next, mark_line}

pub record Fits (s : NodeType) (v : Value) : Type 0 where
  pub bits : T (B.not (same_sort s Memory)) → v.num < 2 ^ width s
  pub cells : T (same_sort s Memory) → (a : ℕ) → v.mem a < 2 ^ 64

-- ---- the pieces

fits_word : (n : ℕ) → n < 2 ^ 64 → Fits Word (number n)
fits_word n h = record { bits = λ _. h; cells = λ z. absurd z }

fits_bit : (n : ℕ) → n < 2 → Fits Bit (number n)
fits_bit n h = record { bits = λ _. h; cells = λ z. absurd z }

fits_array : (f : ℕ → ℕ) → ((a : ℕ) → f a < 2 ^ 64) → Fits Memory (array f)
fits_array f h = record { bits = λ z. absurd z; cells = λ _. h }

at_word : {v : Value} → Fits Word v → v.num < 2 ^ 64
at_word h = h.bits tt

at_cells : {v : Value} → Fits Memory v → (a : ℕ) → v.mem a < 2 ^ 64
at_cells h = h.cells tt

fits_ite : {s : NodeType} {a b : Value} (c : ℕ) → Fits s a → Fits s b → Fits s (Smt.ite c a b)
unfolding Smt.ite
fits_ite {s} {a} {b} c ha hb = go (eqb c 1)
  where
    go : (t : Bool) → Fits s (elim t as (λ _. Value) [ true ↦ a | false ↦ b ])
    go true = ha
    go false = hb

fits_store : (m : ℕ → ℕ) (a v : ℕ) → ((x : ℕ) → m x < 2 ^ 64) → v < 2 ^ 64 → (x : ℕ) → store m a v x < 2 ^ 64
unfolding Smt.ite
fits_store m a v hm hv x = go (eqb (bvcomp x a) 1)
  where
    go : (t : Bool) → elim t as (λ _. ℕ) [ true ↦ v | false ↦ m x ] < 2 ^ 64
    go true = hv
    go false = hm x

fits_of_sort : (s : NodeType) (v : Value) → Fits s (of_sort s v)
fits_of_sort s v = go (same_sort s Memory) refl
  where
    go : (t : Bool) → same_sort s Memory ≡ t → Fits s (cond t (array (λ a. v.mem a % 2 ^ 64)) (number (v.num % 2 ^ width s)))
    go true e = record { bits = λ z. absurd (subst (λ b. T (B.not b)) e z); cells = λ _ a. mod-lt (v.mem a) (pow_pos 64) }
    go false e = record { bits = λ _. mod-lt v.num (pow_pos (width s)); cells = λ z. absurd (subst T e z) }

fits_bin : (o : Bin) (x y : ℕ) → x < 2 ^ 64 → y < 2 ^ 64 → Fits (bin_sort o) (number (binary o x y))
unfolding binary
fits_bin add x y hx hy = fits_word _ (add_fits 64 x y)
fits_bin sub x y hx hy = fits_word _ (sub_fits 64 x y)
fits_bin mul x y hx hy = fits_word _ (mul_fits 64 x y)
fits_bin udiv x y hx hy = fits_word _ (udiv_fits 64 y hx)
fits_bin sdiv x y hx hy = fits_word _ (sdiv_fits 64 x y hx)
fits_bin urem x y hx hy = fits_word _ (urem_fits 64 y hx)
fits_bin sll x y hx hy = fits_word _ (shl_fits 64 x y)
fits_bin srl x y hx hy = fits_word _ (lshr_fits 64 y hx)
fits_bin ult x y hx hy = fits_bit _ (ult_fits x y)

-- a sort that is Bit or Word is not Memory
plain : (s : NodeType) → T (bit_or_word s) → T (same_sort s Memory) → ⊥
plain Bit h z = z
plain Word h z = z
plain Memory h z = h
plain Input1Byte h z = z
plain Input2Byte h z = z
plain Input3Byte h z = z
plain Input4Byte h z = z
plain Input5Byte h z = z
plain Input6Byte h z = z
plain Input7Byte h z = z

fits_plain : (s : NodeType) (n : ℕ) → T (bit_or_word s) → n < 2 ^ width s → Fits s (number n)
fits_plain s n h l = record { bits = λ _. l; cells = λ z. absurd (plain s h z) }

plain_bits : {s : NodeType} {v : Value} → T (bit_or_word s) → Fits s v → v.num < 2 ^ width s
plain_bits {s} h f = f.bits (go (same_sort s Memory) refl)
  where
    go : (t : Bool) → same_sort s Memory ≡ t → T (B.not t)
    go true e = plain s h (subst T (sym e) tt)
    go false e = tt

not_or : (a b : Bool) → T (B.not (a || b)) → T (B.not b)
not_or true b h = absurd h
not_or false b h = h

-- ---- one line, its operands being as their marks say

module _ (env : Env) (p : ℕ) (f : ℕ → Judged) (g : ℕ → Value) (ok : (q : ℕ) (s : NodeType) → T (is s (f q).mark) → Fits s (g q)) where
  abbrev Right : Op ℕ → Type 0
  Right o = T (rule (map_op (λ j. j.mark) (map_op f o)))

  own_sort_lem : (o : Op ℕ) (t : NodeType) → Fits t (eval_op env p (map_op g o)) → (s : NodeType) → T (same_sort s t) → Fits s (eval_op env p (map_op g o))
  own_sort_lem o t h s e = subst (λ s. Fits s (eval_op env p (map_op g o))) (sym (same_sort_lem s t e)) h

  word_of : (q : ℕ) → T (is Word (f q).mark) → (g q).num < 2 ^ 64
  word_of q h = at_word (ok q Word h)

  op_fits : (o : Op ℕ) → Right o → (s : NodeType) → T (has_sort s (carried (map_op f o))) → Fits s (eval_op env p (map_op g o))
  unfolding map_op rule carried eval_op
  op_fits (const t n) h =
      own_sort_lem (const t n) t (record { bits = λ _. ltb→lt _ _ (both (B.not (same_sort t Memory)) _ h).1; cells = λ z. absurd (go (same_sort t Memory) (both (B.not (same_sort t Memory)) _ h).0 z) })
    where
      go : (b : Bool) → T (B.not b) → T b → ⊥
      go true h z = h
      go false h z = z
  op_fits (read m a) h = own_sort_lem (read m a) Word (fits_word _ (at_cells (ok m Memory (both (is Memory (f m).mark) _ h).0) (g a).num))
  op_fits (write m a v) h =
      own_sort_lem (write m a v) Memory
      (fits_array _ (fits_store (g m).mem (g a).num (g v).num (at_cells (ok m Memory (both (is Memory (f m).mark) _ h).0))
      (word_of v (both (is Word (f a).mark) _ (both (is Memory (f m).mark) _ h).1).1)))
  op_fits (bin o a b) h = own_sort_lem (bin o a b) (bin_sort o) (fits_bin o _ _ (word_of a (both (is Word (f a).mark) _ h).0) (word_of b (both (is Word (f a).mark) _ h).1))
  op_fits (uext t a) h =
      own_sort_lem (uext t a) Word
      (fits_word _ (unfold zero_extend in lt_of_lt_of_le ((ok a t k.1).bits (not_or (same_sort t Word) _ k.0)) (pow_mono (width_small t))))
    where
      k : T (B.not (same_sort t Word || same_sort t Memory)) × T (is t (f a).mark)
      k = both (B.not (same_sort t Word || same_sort t Memory)) _ h
  op_fits (ite t c a b) h = own_sort_lem (ite t c a b) t (fits_ite (g c).num (ok a t k.0) (ok b t k.1))
    where
      k : T (is t (f a).mark) × T (is t (f b).mark)
      k = both (is t (f a).mark) _ (both (is Bit (f c).mark) _ h).1
  op_fits (eq a b) h = own_sort_lem (eq a b) Bit (fits_bit _ (comp_fits (g a).num (g b).num))
  op_fits (and t a b) h = own_sort_lem (and t a b) t (fits_plain t _ k.0 (and_fits (width t) _ (plain_bits k.0 (ok a t (both (is t (f a).mark) _ k.1).0))))
    where
      k : T (bit_or_word t) × T (is t (f a).mark && is t (f b).mark)
      k = both (bit_or_word t) _ h
  op_fits (or t a b) h =
      own_sort_lem (or t a b) t
      (fits_plain t _ k.0 (or_fits (width t) _ _ (plain_bits k.0 (ok a t (both (is t (f a).mark) _ k.1).0)) (plain_bits k.0 (ok b t (both (is t (f a).mark) _ k.1).1))))
    where
      k : T (bit_or_word t) × T (is t (f a).mark && is t (f b).mark)
      k = both (bit_or_word t) _ h
  op_fits (not t a) h = own_sort_lem (not t a) t (fits_plain t _ (both (bit_or_word t) _ h).0 (not_fits (width t) _))
  op_fits (state t m) h = own_sort_lem (state t m) t (fits_of_sort t (env p))
  op_fits (state_init t a m) h = own_sort_lem (state_init t a m) t (fits_of_sort t (env p))
  op_fits (next t a b) h = λ s z. absurd z
  op_fits (input t m) h = own_sort_lem (input t m) t (fits_of_sort t (env p))
  op_fits (bad a m) h = λ s z. absurd z
  op_fits unknown h = λ s z. absurd z

-- ---- the list

Fit : Judged → Value → Type 0
Fit j v = (s : NodeType) → T (is s j.mark) → Fits s v

data AllFit : List Judged → List Value → Type 0 where
  none : AllFit [] []
  also : {j : Judged} {v : Value} {js : List Judged} {vs : List Value} → Fit j v → AllFit js vs → AllFit (j ∷ js) (v ∷ vs)

behind : {js : List Judged} {vs : List Value} → AllFit js vs → (j : Judged) (v : Value) → Fit j v → AllFit (js ++ (j ∷ [])) (vs ++ (v ∷ []))
behind none j v h = also h none
behind (also k l) j v h = also k (behind l j v h)

fit_at : {js : List Judged} {vs : List Value} → AllFit js vs → (p : ℕ) → Fit (get_or js p no_line) (get_or vs p (number 0))
unfolding Fit
fit_at none p = λ s z. absurd z
fit_at (also h l) zero = h
fit_at (also h l) (suc p) = fit_at l p

fit_walk : (env : Env) {js : List Judged} {vs : List Value} → AllFit js vs → (xs : List (Op ℕ)) → T (all_right (walk Judged no_line judge js xs))
    → AllFit (walk Judged no_line judge js xs) (walk Value (number 0) (eval_op env) vs xs)
unfolding walk
fit_walk env l [] h = l
fit_walk env {js} {vs} l (o ∷ xs) h =
    fit_walk env {js = js ++ (judge (length js) (map_op (λ p. get_or js p no_line) o) ∷ [])} {vs = vs ++ (eval_op env (length vs) (map_op (λ p. get_or vs p (number 0)) o) ∷ [])}
    (behind l (judge (length js) (map_op (λ p. get_or js p no_line) o)) (eval_op env (length vs) (map_op (λ p. get_or vs p (number 0)) o))
    (unfold Fit judge in op_fits env (length vs) (λ p. get_or js p no_line) (λ p. get_or vs p (number 0)) (fit_at l) o (right_next js o xs h)))
    xs h

pub value_fits : (env : Env) (xs : List (Op ℕ)) → T (meets_sort_rule xs) → (s : NodeType) (p : ℕ) → T (line_is s xs p) → Fits s (value env xs p)
unfolding meets_sort_rule judged value values Fit
value_fits env xs h s p l = fit_at (fit_walk env none xs h) p s (subst T (sym (mark_line s xs p)) l)
