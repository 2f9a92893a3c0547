-- Demand 3, whole: from a start that the start's check accepts, after any list of calls of which none is accepted for Mul or Mulw, every line
-- meets the sort rule; and where at most one accepted call that needs a flag has it true, and that one is admitted, each register flow and the
-- memory flow have the manual's value where that call writes them, and their starting value elsewhere. The quoted words are document 01's
-- ("Start, storage, evaluation") but where another document is named, and each hypothesis has a name.
use Rattle.std.specs.Prelude.{ℕ, ◌^◌, ◌≤◌, ◌<◌, ◌≡◌, Bool, cond, ◌&&◌, not, List, [], ◌∷◌, T, eqb, length}
use Rattle.btor2.specs.SortRule.{meets_sort_rule}
use Rattle.btor2.specs.Value.{Value, Env, value}
use Rattle.riscv.specs.Class.{needs_flag}
use Rattle.riscv.specs.declared.Kind.{Kind}
use Rattle.riscv.specs.Kind.{kind_at}
use Rattle.riscv.specs.Manual.{Effect, nothing, sets_rd, sets_memory, manual}
use Rattle.riscv.specs.Memory.{bytes_of, cells_with}
use Rattle.state.specs.Roles.{memory_node, memory_flow, role_count, role, register_node, register_flow}
use Rattle.riscv.specs.Format.{last_register}
use Rattle.riscv.specs.Zeros.{zeros_of}
use Rattle.state.specs.Room.{room_of}
use Rattle.start.specs.Start.{start_refusal}
use Rattle.meaning.specs.Condition.{Admitted, excluded}
use Rattle.demand.specs.Calls.{Held, lines_in, Request, Call, lower, join, accepted, step, run}

-- ---- what is asked of the start and of the calls

-- the start's check, `check_start`, accepts it: "A start is checked 9 to 13", and none applies. With the list and our name area the host lends
-- its own name area, and edge, dispatch and bad lists: any.
pub record AcceptedStart (h : Held) : Type 0 where
  pub host : List ℕ
  pub edges : List ℕ
  pub dispatches : List ℕ
  pub bads : List ℕ
  pub accepts : start_refusal h.list (length host) (room_of (length h.list) (length h.names) (length edges) (length dispatches) (length bads)) h.state ≡ 0
  -- what the code's type of the roles gives: an array of 79
  pub given : length h.state.roles ≡ role_count

-- "any records": an immediate is a word of 64 bits
abbrev pub Records : List Call → Type 0
Records [] = Unit {0}
Records (lower c ∷ cs) = (c.call.instruction.imm < 2 ^ 64) × Records cs
Records (join c ∷ cs) = Records cs

abbrev pub kind_of : Request → Kind
kind_of c = kind_at c.call.instruction.kind

-- "all kinds but Mul, Mulw, Div and Divw", of which document 02, R-4, admits Div and Divw: neither Mul nor Mulw is accepted
abbrev pub NoneExcluded : Held → List Call → Type 0
NoneExcluded h [] = Unit {0}
NoneExcluded h (lower c ∷ cs) = (T (accepted h c) → T (not (excluded (kind_of c)))) × NoneExcluded (step h (lower c)) cs
NoneExcluded h (join c ∷ cs) = NoneExcluded (step h (join c)) cs

-- ---- values: "A line's value is BTOR2's for given states and inputs, no init or Next used"

module _ (env : Env) where
  unfoldable pub register_node_value : Held → ℕ → ℕ
  register_node_value h r = (value env (lines_in h) (register_node h.state.roles r).0).num

  unfoldable pub memory_node_value : Held → ℕ → ℕ
  memory_node_value h = (value env (lines_in h) (role h.state.roles memory_node).0).mem

  unfoldable pub register_flow_value : Held → ℕ → ℕ
  register_flow_value h r = (value env (lines_in h) (register_flow h.state.roles r).0).num

  unfoldable pub memory_flow_value : Held → ℕ → ℕ
  memory_flow_value h = (value env (lines_in h) (role h.state.roles memory_flow).0).mem

-- "a flag is true at value 1, and one not needed isn't counted": the accepted calls that need a flag which is true, where the places of the
-- list have the values v
abbrev pub needs_its_flag : Request → Bool
needs_its_flag c = needs_flag (kind_of c) (zeros_of c.call.instruction)

abbrev pub is_true : (ℕ → Value) → Held → Request → Bool
is_true v h c = accepted h c && (needs_its_flag c && eqb (v c.call.flag.0).num 1)

unfoldable pub true_calls : (ℕ → Value) → Held → List Call → List Request
true_calls v h [] = []
true_calls v h (lower c ∷ cs) = cond (is_true v h c) (c ∷ true_calls v (step h (lower c)) cs) (true_calls v (step h (lower c)) cs)
-- "as calls without a flag that write no register or memory flow"
true_calls v h (join c ∷ cs) = true_calls v (step h (join c)) cs

-- ---- the manual's values: "Of the register and memory flows, a store writes the memory flow, a branch or Ecall none, and any other of the 50
-- rd's alone, or none where rd is x0"

-- register r, from x1 to x31, and the word of memory at address a; `before` is the flow's value before
abbrev pub register_after : Effect → ℕ → (ℕ → ℕ) → ℕ → ℕ
register_after nothing rd before r = before r
register_after (sets_rd v) rd before r = cond (eqb r rd) v (before r)
register_after (sets_memory bytes) rd before r = before r

-- "a store leaves cells at other addresses as in the memory node"
abbrev pub memory_after : Effect → (ℕ → ℕ) → (ℕ → ℕ) → ℕ → ℕ
memory_after nothing node before a = before a
memory_after (sets_rd v) node before a = before a
memory_after (sets_memory bytes) node before a = cells_with node bytes a

-- what the manual says of a call, its operands being those of register nodes and of the memory node
unfoldable pub effect_of : (ℕ → ℕ) → (ℕ → ℕ) → Request → Effect
effect_of registers memory c =
    let i = c.call.instruction in manual i.imm c.call.address (registers i.rs1) (registers i.rs2) (bytes_of memory) (kind_of c)

-- what is asked of a call whose flag is true: its load or store stays in one aligned 8-byte word, and its Div or Divw is ordinary
abbrev pub AdmittedCall : (ℕ → ℕ) → Request → Type 0
AdmittedCall registers c = let i = c.call.instruction in Admitted (kind_of c) (registers i.rs1) (registers i.rs2) i.imm

abbrev pub Each : (Request → Type 0) → List Request → Type 0
Each asked [] = Unit {0}
Each asked (c ∷ cs) = asked c × Each asked cs

-- ---- the claim

module _ (env : Env) (start : Held) where
  -- x0's node is 0 (the given zeros and ones may have any value: no register's or memory's flow depends on them)
  abbrev pub ZeroRegister : Type 0
  ZeroRegister = register_node_value env start 0 ≡ 0

  -- the flows once the one call with a true flag is done, if there is one; "A starting value is that of the node given at the start"
  abbrev pub registers_by : List Request → ℕ → ℕ
  registers_by [] r = register_flow_value env start r
  registers_by (c ∷ cs) r =
      register_after (effect_of (register_node_value env start) (memory_node_value env start) c) c.call.instruction.rd (register_flow_value env start) r

  abbrev pub memory_by : List Request → ℕ → ℕ
  memory_by [] a = memory_flow_value env start a
  memory_by (c ∷ cs) a =
      memory_after (effect_of (register_node_value env start) (memory_node_value env start) c) (memory_node_value env start) (memory_flow_value env start) a

module _ (env : Env) (start : Held) (calls : List Call) where
  -- the calls with a true flag, the values being those of the final list
  abbrev pub true_ones : List Request
  true_ones = true_calls (value env (lines_in (run start calls))) start calls

  -- at most one accepted call that needs a flag has it true
  abbrev pub AtMostOne : Type 0
  AtMostOne = length true_ones ≤ 1

  -- document 02, R-4: "the third demand then admits them where the one with the true flag is ordinary"
  abbrev pub TrueOnesAdmitted : Type 0
  TrueOnesAdmitted = Each (AdmittedCall (register_node_value env start)) true_ones

  -- every register flow, and the memory flow at every address
  pub record FlowValues : Type 0 where
    pub registers : (r : ℕ) → 1 ≤ r → r ≤ last_register → register_flow_value env (run start calls) r ≡ registers_by env start true_ones r
    pub memory : (a : ℕ) → a < 2 ^ 64 → memory_flow_value env (run start calls) a ≡ memory_by env start true_ones a

pub record Means (start : Held) (calls : List Call) : Type 0 where
  -- every line of the final list meets the sort rule: "An operand is an earlier line other than Next and Bad"
  pub sorted : T (meets_sort_rule (lines_in (run start calls)))
  -- for any states and inputs
  pub flows : (env : Env) → AtMostOne env start calls → TrueOnesAdmitted env start calls → ZeroRegister env start → FlowValues env start calls

abbrev pub Demand3 : Type 0
Demand3 = (start : Held) (calls : List Call) → AcceptedStart start → Records calls → NoneExcluded start calls → Means start calls
