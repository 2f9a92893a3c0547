-- The sort that a record says. Assumes nothing.
use Rattle.std.specs.Prelude.{Some}
use Prim.Native.Nat.{ℕ, zero, suc, ◌≤◌}
use mathlib.Core.Path.{◌≡◌, refl, sym, ap, subst, ◌∙◌}
use mathlib.Core.Bool.{Bool, true, false, cond, not}
use native.Mathlib.Omega.{arith}
use lib.Dec.{T, eqb}
use borrow.Author.Tests.{eq-eqb, eqb-true}
use Rattle.btor2.specs.declared.NodeType.{NodeType}
use Rattle.btor2.specs.declared.NodeType.TheVariants.{Bit, Word, Memory}
use Rattle.btor2.specs.Op.{state, state_init, carried}
use Rattle.btor2_list.specs.declared.Line.{Line}
use Rattle.btor2_list.specs.Node.{op_of, node_of}
use Rattle.btor2_list.specs.Look.{seen}
use Rattle.state.specs.RolesFit.{value_sort}

-- a constant, an ite or a state of a Bit, a Word or a Memory
module _ (l : Line) where
  abbrev Says : ℕ → ℕ → Type 0
  Says kind s = l.kind ≡ kind → l.sort ≡ s → s ≡ value_sort (seen (node_of l))

  says : (kind : ℕ) → Says kind 1 → Says kind 2 → Says kind 3 → (s : ℕ) → (s ≡ 0 → ⊥) → s ≤ 3 → Says kind s
  says kind one two three zero n h = absurd (n refl)
  says kind one two three (suc zero) n h = one
  says kind one two three (suc (suc zero)) n h = two
  says kind one two three (suc (suc (suc zero))) n h = three
  says kind one two three (suc (suc (suc (suc s)))) n h = absurd (omega (arith, h))

  pub const_says : (s : ℕ) → (s ≡ 0 → ⊥) → s ≤ 3 → Says 1 s
  unfolding op_of carried
  const_says = says 1 (λ k e. rw (k, e)) (λ k e. rw (k, e)) (λ k e. rw (k, e))

  pub ite_says : (s : ℕ) → (s ≡ 0 → ⊥) → s ≤ 3 → Says 14 s
  unfolding op_of carried
  ite_says = says 14 (λ k e. rw (k, e)) (λ k e. rw (k, e)) (λ k e. rw (k, e))

  either : (t : NodeType) (b : Bool) → carried {A = ℕ} (cond b (state t l.name) (state_init t l.op1.0 l.name)) ≡ Some t
  unfolding carried
  either t true = refl
  either t false = refl

  pub state_says : (s : ℕ) → (s ≡ 0 → ⊥) → s ≤ 3 → Says 19 s
  unfolding op_of
  state_says = says 19 (λ k e. rw (k, e, either Bit (eqb l.imm 0))) (λ k e. rw (k, e, either Word (eqb l.imm 0))) (λ k e. rw (k, e, either Memory (eqb l.imm 0)))

pub false_true : false ≡ true → ⊥
false_true e = subst T (sym e) tt

-- what a test says of two numbers
pub out_not : (r : Bool) (v s t : ℕ) → r ≡ not (eqb v s) → s ≡ t → r ≡ true → v ≡ t → ⊥
out_not r v s t e f h k = false_true (sym (ap not (eq-eqb v s (k ∙ sym f))) ∙ sym e ∙ h)

pub out_is : (r : Bool) (v s t : ℕ) → r ≡ not (eqb v s) → s ≡ t → r ≡ false → v ≡ t
out_is r v s t e f h = eqb-true v s (go (eqb v s) (sym e ∙ h)) ∙ f
  where
    go : (b : Bool) → not b ≡ false → b ≡ true
    go true k = refl
    go false k = absurd (false_true (sym k))
