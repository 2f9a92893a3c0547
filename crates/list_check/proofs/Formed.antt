-- Refusal 11 over the lines of the words is that of each record with the lookups from its place. Assumes nothing.
use Prim.Native.Nat.{ℕ, ◌≤◌, ◌<◌}
use mathlib.Core.Path.{◌≡◌, ◌∙◌, ap, fun_ext}
use mathlib.Core.Bool.{Bool, false}
use mathlib.Core.Bool as B
use mathlib.Core.List.{List}
use native.Mathlib.Omega.{arith}
use borrow.Author.Tests.{lt-ltb, le-ltb, ltb-false}
use lib.ListN.{length, length-map, get_or-map}
use Rattle.bitvec.proofs.Truth.{neither}
use Rattle.bitvec.proofs.Base.{by_le}
use Rattle.btor2.specs.Op.{Op}
use Rattle.btor2_list.specs.Record.{record_at, capacity}
use Rattle.btor2_list.specs.Node.{Node, no_node, op_of}
use Rattle.btor2_list.specs.View.{view}
use Rattle.btor2_list.proofs.View.{view-length, view_at}
use Rattle.list_check.specs.Lines.{ops, op_at, some, any, past_words}
use Rattle.list_check.specs.Formed.{is_unknown, ext_from_memory, operands, name_of, name_outside, earlier_value, op_unformed, line_unformed, unformed, unformed_words}
use Rattle.list_check.specs.Operand.{no_value_at}
use Rattle.list_check.proofs.Some.{some_same, some_none}

-- what the record at place p says
abbrev pub said : List ℕ → ℕ → Op ℕ
said ws p = op_of (record_at ws p)

-- the test of the record at place p
abbrev pub record_unformed : ℕ → ℕ → List ℕ → ℕ → Bool
record_unformed host ours ws p = op_unformed host ours (no_value_at ws p) (said ws p)

pub op_at_lem : (ws : List ℕ) (n p : ℕ) → p < n → op_at (ops (view ws n)) p ≡ said ws p
op_at_lem ws n p h = get_or-map (λ (x : Node). x.op) (view ws n) p no_node ∙ ap (λ (x : Node). x.op) (view_at ws n no_node p h)

pub ops-length : (ws : List ℕ) (n : ℕ) → length (ops (view ws n)) ≡ n
ops-length ws n = length-map (view ws n) (λ (x : Node). x.op) ∙ view-length ws n

module _ (ws : List ℕ) (n : ℕ) (room : n ≤ capacity (length ws)) where
  -- the lookup from line p is the test of the definition
  pub looked : (p : ℕ) → p < n → (q : ℕ) → B.not (earlier_value (ops (view ws n)) p q) ≡ no_value_at ws p q
  looked p h q =
      by_le p q
      (λ l. rw (le-ltb q p l))
      (λ l. let there : q < capacity (length ws) = omega arith in rw (lt-ltb q p l, lt-ltb _ _ there, op_at_lem ws n q (omega arith)))

  pub by_records : (host ours : ℕ) → unformed host ours (ops (view ws n)) ≡ some n (record_unformed host ours ws)
  unfolding unformed
  by_records host ours =
      rw (ops-length ws n)
      (some_same n (line_unformed host ours (ops (view ws n))) (record_unformed host ours ws)
      (λ p h. rw (op_at_lem ws n p h) (ap (λ (out : ℕ → Bool). op_unformed host ours out (said ws p)) (fun_ext (looked p h)))))

-- where the check finds nothing, the words hold the lines, and each line passes its tests
pub when_formed : (ws : List ℕ) (n host ours : ℕ) → unformed_words ws n host ours ≡ false
    → (n ≤ capacity (length ws)) × ((p : ℕ) → p < n → line_unformed host ours (ops (view ws n)) p ≡ false)
unfolding unformed
when_formed ws n host ours e =
    let both = neither (past_words ws n) (unformed host ours (ops (view ws n))) e in
    (ltb-false (capacity (length ws)) n both.0, λ p h. some_none (length (ops (view ws n))) (line_unformed host ours (ops (view ws n))) both.1 p (rw (ops-length ws n) h))

-- and what a line that passes has
pub formed_line : (host ours : ℕ) (out : ℕ → Bool) (o : Op ℕ) → op_unformed host ours out o ≡ false
    → (is_unknown o ≡ false) × (ext_from_memory o ≡ false) × (name_outside host ours (name_of o) ≡ false) × (any out (operands o) ≡ false)
unfolding op_unformed
formed_line host ours out o e =
    let p1 = neither (is_unknown o) _ e in
    let p2 = neither (ext_from_memory o) _ p1.1 in
    let p3 = neither (name_outside host ours (name_of o)) _ p2.1 in
    (p1.0, p2.0, p3.0, p3.1)
