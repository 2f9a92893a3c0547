-- A record of a kind with no name, of a known sort, with no operand out, and no Ext from Memory is well formed. Assumes nothing.
use Rattle.std.specs.Prelude.{Some}
use Prim.Native.Nat.{ℕ, ◌≤◌, ◌<◌}
use mathlib.Core.Path.{◌≡◌, sym, ◌∙◌, ap}
use mathlib.Core.Bool.{Bool, false}
use mathlib.Core.List.{[], ◌∷◌}
use mathlib.Core.Logic.{⊎_elim}
use native.Mathlib.Nat.{eq-or-lt_of_le}
use native.Mathlib.Omega.{arith}
use Rattle.std.proofs.lemmas.Bool.Decides.{nat_tests}
use borrow.Author.Tests.{ne_eqb}
use Rattle.bitvec.proofs.Truth.{neither}
use Rattle.btor2.specs.declared.NodeType.{NodeType}
use Rattle.btor2.specs.declared.NodeType.TheVariants.{Bit, Word, Memory}
use Rattle.btor2.specs.Sort.{sort_number, sort_numbered}
use Rattle.btor2.proofs.Sort.{sort_back}
use Rattle.btor2_list.specs.declared.Line.{Line}
use Rattle.btor2_list.specs.Record.{has_name}
use Rattle.btor2_list.specs.Node.{operator_at, operators_by_kind, op_of}
use Rattle.list_check.specs.Lines.{any}
use Rattle.list_check.specs.Formed.{op_unformed}

-- ---- the number of a sort

abbrev pub Known : ℕ → Type 0
Known n = (s : NodeType) × (n ≡ sort_number s)

-- this sort's, or a larger one
this : (s : NodeType) (n : ℕ) → (sort_number s < n → Known n) → sort_number s ≤ n → Known n
this s n more h = ⊎_elim (λ (e : sort_number s ≡ n). (s, sym e)) more (eq-or-lt_of_le h)

pub one_to_three : (n : ℕ) → n ≤ 3 → 1 ≤ n → Known n
one_to_three n h = this Bit n (this Word n (this Memory n (λ l. absurd (omega arith))))

-- ---- kind by kind

pub unnamed : (k : ℕ) → k ≤ 20 → (k ≡ 19 → ⊥) → has_name k ≡ false
unnamed k h n = rw (ne_eqb k 19 n, ne_eqb k 21 (λ e. omega arith), ne_eqb k 22 (λ e. omega arith))

module _ (host ours : ℕ) (out : ℕ → Bool) (l : Line) where
  known : (s : NodeType) → (l.kind ≡ 13 → sort_number s ≡ 3 → ⊥) → 1 ≤ l.kind → l.kind ≤ 20 → (l.kind ≡ 19 → ⊥) → out l.op1.0 ≡ false → out l.op2.0 ≡ false → out l.op3.0 ≡ false
      → op_unformed host ours out (operator_at (operators_by_kind (Some s) l) 1 l.kind) ≡ false
  unfolding op_unformed
  known s no-memory from to no-state a b d = grind (arith, nat_tests)

  pub plain : 1 ≤ l.kind → l.kind ≤ 20 → (l.kind ≡ 19 → ⊥) → Known l.sort → (l.kind ≡ 13 → l.sort ≡ 3 → ⊥)
      → any out (l.op1.0 ∷ l.op2.0 ∷ l.op3.0 ∷ []) ≡ false → op_unformed host ours out (op_of l) ≡ false
  unfolding op_of op_unformed
  plain from to no-state (s, is) no-memory three =
      let sort : sort_numbered l.sort ≡ Some s = ap sort_numbered is ∙ sort_back s in
      let a = neither (out l.op1.0) _ three in
      let b = neither (out l.op2.0) _ a.1 in
      rw sort (known s (λ e m. no-memory e (is ∙ m)) from to no-state a.0 b.0 (neither (out l.op3.0) _ b.1).0)

  -- a Const has no operand
  pub plain_const : l.kind ≡ 1 → Known l.sort → op_unformed host ours out (op_of l) ≡ false
  unfolding op_of op_unformed
  plain_const e (s, is) =
      let sort : sort_numbered l.sort ≡ Some s = ap sort_numbered is ∙ sort_back s in
      rw (e, sort)
