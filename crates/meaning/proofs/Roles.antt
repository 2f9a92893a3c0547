-- The sorts of what an instruction's lines refer to, and what is asked of a template: two computed tests. Assumes nothing.
use Rattle.std.specs.Prelude.{Some}
use Prim.Native.Nat.{ℕ}
use mathlib.Core.Bool.{Bool, true, false, ◌&&◌, ◌||◌}
use mathlib.Core.List.{List, []}
use Rattle.btor2.specs.declared.NodeType.{NodeType}
use Rattle.btor2.specs.declared.NodeType.TheVariants.{Bit, Word, Memory}
use Rattle.btor2.specs.Op.{Op, map_op, carried}
use Rattle.btor2.specs.SortRule.{Judged, is, rule, is_state_op, judge, no_line, all_right}
use Rattle.models.specs.Places.{Flows, Outcome, nothing, register, memory, branch}
use Rattle.lowering_laws.proofs.EachKind.{Reading}
use Rattle.lowering_laws.proofs.Template.{Role, flag, rs1, rs2, zero, one, true_bit, memory_node, counter_node, maximum_node, counter_flow, maximum_flow, division_flow, remainder_flow, access_flow, addition_flow, multiplication_flow, ecall_flow, register_flow, memory_flow, Ref}
use Rattle.meaning.proofs.Walk.{look, read}

-- as in the table of roles; a flag is a Bit
abbrev pub sort_of : Role → NodeType
sort_of flag = Bit
sort_of rs1 = Word
sort_of rs2 = Word
sort_of zero = Word
sort_of one = Word
sort_of true_bit = Bit
sort_of memory_node = Memory
sort_of counter_node = Memory
sort_of maximum_node = Word
sort_of counter_flow = Memory
sort_of maximum_flow = Word
sort_of division_flow = Word
sort_of remainder_flow = Word
sort_of access_flow = Word
sort_of addition_flow = Bit
sort_of multiplication_flow = Bit
sort_of ecall_flow = Bit
sort_of register_flow = Word
sort_of memory_flow = Memory

abbrev pub quiet : Outcome Ref → Bool
quiet nothing = true
quiet (register x) = false
quiet (memory x) = false
quiet (branch x y) = true

-- after n lines; a role may be a State or not, and what its own line is does not matter
module _ (n : ℕ) (st rt : Role → Bool) where
  abbrev pub known : Role → Judged
  known r = record { mark = record { sort = Some (sort_of r); is_state = st r }; right = rt r }

  unfoldable pub sorts : List (Op Ref) → List Judged
  unfolding read look judge rule carried is_state_op map_op
  sorts os = read Judged no_line judge n known [] os

  unfoldable pub sort_at : List Judged → Ref → Judged
  unfolding look
  sort_at own x = look Judged no_line judge known own x

  abbrev pub has : NodeType → List Judged → Ref → Bool
  has s own x = is s (sort_at own x).mark

  abbrev pub outcome_has : List Judged → Outcome Ref → Bool
  outcome_has own nothing = true
  outcome_has own (register x) = has Word own x
  outcome_has own (memory x) = has Memory own x
  outcome_has own (branch x y) = has Bit own x && has Bit own y

  abbrev pub flows_have : List Judged → Flows Ref → Bool
  flows_have own f =
      has Memory own f.counter && (has Word own f.maximum && (has Word own f.division && (has Word own f.remainder
      && (has Word own f.access && (has Bit own f.addition && (has Bit own f.multiplication && has Bit own f.ecall))))))

  -- the lines meet the sort rule
  unfoldable pub ruled : Reading Ref → Bool
  unfolding sorts sort_at
  ruled t = all_right (sorts t.lines)

  -- outcome and flows have their sorts, whether or not the lines meet the rule; without a flag no flow of a register or of memory is written
  unfoldable pub marked : Bool → Reading Ref → Bool
  unfolding sorts sort_at
  marked needed t =
      outcome_has (sorts t.lines) t.gives.outcome && (flows_have (sorts t.lines) t.gives.flows && (quiet t.gives.outcome || needed))
