-- The test of a State. Assumes nothing.
use Rattle.std.specs.Prelude.{Option, Some, None}
use Prim.Native.Nat.{ℕ}
use mathlib.Core.Path.{◌≡◌, refl, sym, ◌∙◌}
use mathlib.Core.Bool.{Bool, true, false, cond, ◌&&◌, ◌||◌, or-false, true≢false}
use mathlib.Core.Bool as B
use lib.Dec.{eqb}
use Rattle.btor2.specs.declared.NodeType.{NodeType}
use Rattle.btor2.specs.Sort.{sort_numbered}
use Rattle.btor2.specs.Op.{Op, state, state_init}
use Rattle.btor2_list.specs.declared.Line.{Line}
use Rattle.btor2_list.specs.Node.{with_sort, op_of}
use Rattle.list_check.specs.Formed.{name_outside, has_value, op_unformed}

-- ---- the code's `n || r`

pub second : (n x b r t : Bool) → n ≡ false → n ≡ x → r ≡ b → t ≡ (x || b) → r ≡ t
second n true b r t h e g f = absurd (true≢false (sym e ∙ h))
second n false b r t h e g f = g ∙ sym f

-- ---- a State

module _ (host ours : ℕ) (out : ℕ → Bool) (l : Line) where
  abbrev no_sort : Bool
  no_sort = B.not (has_value (sort_numbered l.sort))

  own : (m : Option NodeType) (g : NodeType → Op ℕ) (b : Bool) → ((s : NodeType) → op_unformed host ours out (g s) ≡ b) → op_unformed host ours out (with_sort m g) ≡ (B.not (has_value m) || b)
  unfolding op_unformed
  own (Some s) g b h = h s
  own None g b h = refl

  -- a State, with an init or without
  either : (s : NodeType) (b : Bool) → op_unformed host ours out (cond b (state s l.name) (state_init s l.op1.0 l.name))
      ≡ (name_outside host ours l.name || (B.not b && out l.op1.0))
  unfolding op_unformed
  either s true = refl
  either s false = rw (or-false (out l.op1.0))

  pub a_state : l.kind ≡ 19 → op_unformed host ours out (op_of l) ≡ (no_sort || (name_outside host ours l.name || (B.not (eqb l.imm 0) && out l.op1.0)))
  unfolding op_of op_unformed
  a_state e = rw e (own (sort_numbered l.sort) _ _ (λ s. either s (eqb l.imm 0)))
