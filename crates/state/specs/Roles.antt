-- The roles that a start gives (document 01, "Start, storage, evaluation"), as 79 places of the list in this order, and what a call reads and
-- sets of them.
use Rattle.std.specs.Prelude.{ℕ, ◌+◌, cond, List, eqb, ltb, get_or, set}
use Rattle.btor2.specs.declared.NodeRef.{NodeRef}
use Rattle.models.specs.declared.Operands.{Operands}
use Rattle.models.specs.declared.Flows.{Flows}
use Rattle.models.specs.Places as P
use Rattle.riscv.specs.declared.Instruction.{Instruction}
use Rattle.riscv.specs.Format.{last_register}
use Rattle.state.specs.declared.roles.Reads.{Reads}

-- ---- where each stands

-- "zero and one as Bit and as Word"
abbrev pub zero_bit : ℕ
zero_bit = 0

abbrev pub one_bit : ℕ
one_bit = 1

abbrev pub zero_word : ℕ
zero_word = 2

abbrev pub one_word : ℕ
one_word = 3

-- the nodes of memory, counter and counter maximum
abbrev pub memory_node : ℕ
memory_node = 4

abbrev pub counter_node : ℕ
counter_node = 5

abbrev pub maximum_node : ℕ
maximum_node = 6

-- "32 register nodes": from that of x0 on
abbrev pub register_nodes : ℕ
register_nodes = 7

-- "31 flows", of x1 to x31: one before that of x1
abbrev pub register_flows : ℕ
register_flows = 38

-- the flows of memory, counter and counter maximum
abbrev pub memory_flow : ℕ
memory_flow = 70

abbrev pub counter_flow : ℕ
counter_flow = 71

abbrev pub maximum_flow : ℕ
maximum_flow = 72

-- "division, remainder and access flows [..]; two overflow flows and the ecall flow"
abbrev pub division_flow : ℕ
division_flow = 73

abbrev pub remainder_flow : ℕ
remainder_flow = 74

abbrev pub access_flow : ℕ
access_flow = 75

abbrev pub addition_flow : ℕ
addition_flow = 76

abbrev pub multiplication_flow : ℕ
multiplication_flow = 77

abbrev pub ecall_flow : ℕ
ecall_flow = 78

abbrev pub role_count : ℕ
role_count = 79

-- ---- what an instruction reads

abbrev pub ref : ℕ → NodeRef
ref n = record { 0 = n }

abbrev pub role : List NodeRef → ℕ → NodeRef
role roles i = get_or roles i (ref 0)

-- which role is a register's node; x0's for a field that is no register, which no kind looks at then
abbrev pub node_role : ℕ → ℕ
node_role r = cond (ltb last_register r) register_nodes (register_nodes + r)

-- and which its flow; x0's node for what has none
abbrev pub flow_role : ℕ → ℕ
flow_role r = cond (eqb r 0) register_nodes (cond (ltb last_register r) register_nodes (register_flows + r))

abbrev pub register_node : List NodeRef → ℕ → NodeRef
register_node roles r = role roles (node_role r)

abbrev pub register_flow : List NodeRef → ℕ → NodeRef
register_flow roles r = role roles (flow_role r)

-- an instruction reads register nodes, never flows
unfoldable pub operands_for : List NodeRef → NodeRef → ℕ → ℕ → Operands
operands_for roles flag rs1 rs2 = record {
  flag = flag;
  rs1 = register_node roles rs1;
  rs2 = register_node roles rs2;
  zero = role roles zero_word;
  one = role roles one_word;
  true_bit = role roles one_bit;
  memory = role roles memory_node;
  counter = role roles counter_node;
  maximum = role roles maximum_node;
}

unfoldable pub flows_in : List NodeRef → Flows
flows_in roles = record {
  counter = role roles counter_flow;
  maximum = role roles maximum_flow;
  division = role roles division_flow;
  remainder = role roles remainder_flow;
  access = role roles access_flow;
  addition = role roles addition_flow;
  multiplication = role roles multiplication_flow;
  ecall = role roles ecall_flow;
}

-- what an instruction reads: "All operands come from register nodes", and the flows that its lines replace
abbrev pub reads_in : List NodeRef → NodeRef → Instruction → Reads
reads_in roles flag i = record {
  operands = operands_for roles flag i.rs1 i.rs2;
  flows = flows_in roles;
  register = register_flow roles i.rd;
  memory = role roles memory_flow;
}

-- ---- what it sets

-- the roles once these flows are set
unfoldable pub with_flows : List NodeRef → P.Flows ℕ → List NodeRef
with_flows roles f =
    set (set (set (set (set (set (set (set roles counter_flow (ref f.counter)) maximum_flow (ref f.maximum)) division_flow (ref f.division))
    remainder_flow (ref f.remainder)) access_flow (ref f.access)) addition_flow (ref f.addition)) multiplication_flow (ref f.multiplication))
    ecall_flow (ref f.ecall)

-- and the register's or the memory's flow, where a model gave one
abbrev pub with_register_flow : List NodeRef → ℕ → NodeRef → List NodeRef
with_register_flow roles rd x = cond (eqb rd 0) roles (cond (ltb last_register rd) roles (set roles (register_flows + rd) x))

abbrev pub with_outcome : List NodeRef → ℕ → P.Outcome ℕ → List NodeRef
with_outcome roles rd P.nothing = roles
with_outcome roles rd (P.register x) = with_register_flow roles rd (ref x)
with_outcome roles rd (P.memory x) = set roles memory_flow (ref x)
with_outcome roles rd (P.branch x y) = roles
