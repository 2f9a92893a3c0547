-- The in-edges of an instruction: unicorn's `go_to_instruction`, in the second `match` of `translate_to_model`.
use Rattle.std.specs.Prelude.{ℕ, ◌+◌, ◌-◌, ◌%◌, ◌^◌, List, [], ◌∷◌}
use Rattle.riscv.specs.declared.Class.{Class}
use Rattle.riscv.specs.declared.Class.TheVariants.{Plain, Access, Addi, Branch, Jal, Jalr, Ecall}
use Rattle.models.specs.Places.{Outcome, nothing, register, memory, branch}
use Rattle.btor2_list.specs.Records.{put_record}

-- the words of an in-edge: to, from, origin and condition, a place
abbrev pub edge_stride : ℕ
edge_stride = 4

-- the words of a dispatch: register and address
abbrev pub dispatch_stride : ℕ
dispatch_stride = 2

abbrev pub edge : ℕ → ℕ → ℕ → ℕ → List ℕ
edge to from origin condition = to ∷ from ∷ origin ∷ condition ∷ []

-- the origins: "kind regular, branch or syscall"
abbrev pub regular_origin : ℕ
regular_origin = 0

abbrev pub branch_origin : ℕ
branch_origin = 1

abbrev pub syscall_origin : ℕ
syscall_origin = 2

-- no condition: a place that no list reaches
abbrev pub no_condition : ℕ
no_condition = 2 ^ 64 - 1

-- the conditions of a branch
abbrev pub taken_condition : Outcome ℕ → ℕ
taken_condition nothing = no_condition
taken_condition (register x) = no_condition
taken_condition (memory x) = no_condition
taken_condition (branch x y) = x

abbrev pub other_condition : Outcome ℕ → ℕ
other_condition nothing = no_condition
other_condition (register x) = no_condition
other_condition (memory x) = no_condition
other_condition (branch x y) = y

abbrev pub edge_count : Class → ℕ
edge_count Plain = 1
edge_count Access = 1
edge_count Addi = 1
edge_count Branch = 2
edge_count Jal = 1
edge_count Jalr = 0
edge_count Ecall = 1

-- "An address sum wraps at 2^64"; an instruction has 4 bytes
abbrev pub target : ℕ → ℕ → ℕ
target address offset = (address + offset) % 2 ^ 64

abbrev pub instruction_size : ℕ
instruction_size = 4

-- the edge of an instruction that has no condition
abbrev pub one_edge : List ℕ → ℕ → ℕ → ℕ → ℕ → List ℕ
one_edge es n to address origin = put_record edge_stride es n (edge to address origin no_condition)

-- "Regular kinds: one edge to the next address; Jal: one regular edge to its target; Ecall: one syscall edge to the next. Branch: the taken
-- edge first, then the other, each with its condition. Jalr: [..] no edge."
abbrev pub edges_after : List ℕ → ℕ → Class → ℕ → ℕ → Outcome ℕ → List ℕ
edges_after es n Plain address imm o = one_edge es n (target address instruction_size) address regular_origin
edges_after es n Access address imm o = one_edge es n (target address instruction_size) address regular_origin
edges_after es n Addi address imm o = one_edge es n (target address instruction_size) address regular_origin
edges_after es n Branch address imm o =
    put_record edge_stride (put_record edge_stride es n (edge (target address imm) address branch_origin (taken_condition o))) (n + 1)
    (edge (target address instruction_size) address branch_origin (other_condition o))
edges_after es n Jal address imm o = one_edge es n (target address imm) address regular_origin
edges_after es n Jalr address imm o = es
edges_after es n Ecall address imm o = one_edge es n (target address instruction_size) address syscall_origin
