-- What the lines of an instruction give, as values, and when that is the manual's effect. Assumes nothing.
use Prim.Native.Nat.{ℕ, ◌^◌, ◌<◌}
use mathlib.Core.Path.{◌≡◌}
use mathlib.Core.Bool.{Bool}
use mathlib.Core.List.{List, []}
use lib.Dec.{T}
use Rattle.bitvec.specs.Smtlib as Smt
use Rattle.btor2.specs.Op.{Op, map_op}
use Rattle.btor2.specs.Value.{Value, number, binary, Env, eval_op}
use Rattle.models.specs.Places.{Outcome, nothing, register, memory, branch}
use Rattle.riscv.specs.Manual.{Effect, nothing as no_effect, sets_rd, sets_memory}
use Rattle.riscv.specs.Memory.{cells_with}
use Rattle.lowering_laws.proofs.EachKind.{Reading}
use Rattle.lowering_laws.proofs.Template.{Role, flag, memory_node, register_flow, memory_flow, Ref, map_outcome}
use Rattle.meaning.proofs.Walk.{look, read}

-- the flow's line is ite(flag, result, old flow), and its result is right where the flag is 1
pub record Flowed (flag old line : Value) (Right : Value → Type 0) : Type 0 where
  pub result : Value
  pub is : line ≡ Smt.ite flag.num result old
  pub right : flag.num ≡ 1 → Right result

-- after n lines, the roles having these values
module _ (env : Env) (n : ℕ) (of_role : Role → Value) where
  unfoldable pub vals : List (Op Ref) → List Value
  unfolding read look eval_op binary map_op
  vals os = read Value (number 0) (eval_op env) n of_role [] os

  unfoldable pub val_at : List Value → Ref → Value
  unfolding look
  val_at own x = look Value (number 0) (eval_op env) of_role own x

  -- where the flows are in the end
  unfoldable pub outcome : Reading Ref → Outcome Value
  unfolding vals val_at map_outcome
  outcome t = map_outcome (val_at (vals t.lines)) t.gives.outcome

  -- d: rd is x0, which takes no value
  abbrev pub Agrees : Bool → Effect → Outcome Value → Type 0
  Agrees d no_effect nothing = Unit {0}
  Agrees d no_effect (register w) = ⊥
  Agrees d no_effect (memory w) = ⊥
  Agrees d no_effect (branch w v) = Unit {0}
  Agrees d (sets_rd x) nothing = T d
  Agrees d (sets_rd x) (register w) = Flowed (of_role flag) (of_role register_flow) w (λ v. v.num ≡ x)
  Agrees d (sets_rd x) (memory w) = ⊥
  Agrees d (sets_rd x) (branch w v) = ⊥
  Agrees d (sets_memory bytes) nothing = ⊥
  Agrees d (sets_memory bytes) (register w) = ⊥
  Agrees d (sets_memory bytes) (memory w) =
      Flowed (of_role flag) (of_role memory_flow) w (λ v. (a : ℕ) → a < 2 ^ 64 → v.mem a ≡ cells_with (of_role memory_node).mem bytes a)
  Agrees d (sets_memory bytes) (branch w v) = ⊥
