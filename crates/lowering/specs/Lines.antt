-- The lines of an instruction from what it reads.
use Rattle.std.specs.Prelude.{ℕ, cond, length}
use Rattle.btor2.specs.declared.Name.{Name}
use Rattle.btor2_list.specs.Node.{no_name}
use Rattle.builder.specs.Prog.{Prog}
use Rattle.btor2_list.specs.NameBytes.{our_area}
use Rattle.riscv.specs.declared.Class.{Class}
use Rattle.riscv.specs.Class.{class, has_bad}
use Rattle.models.specs.Places as P
use Rattle.models.specs.Model.{translate}
use Rattle.riscv.specs.Constant.{constant_of}
use Rattle.models.specs.Code.{operands_of, flows_of}
use Rattle.riscv.specs.declared.Instruction.{Instruction}
use Rattle.riscv.specs.declared.Zeros.{Zeros}
use Rattle.riscv.specs.Zeros.{zeros_of}
use Rattle.riscv.specs.Kind.{kind_at}
use Rattle.text.specs.BadName.{bad_name}
use Rattle.state.specs.declared.roles.Reads.{Reads}

-- Jalr's bad line has a name in our area, after what is in use there; no other line has one
abbrev pub name_for : Class → Zeros → ℕ → ℕ → Name
name_for c z at address = cond (has_bad c z) (record { area = our_area; at = at; len = length (bad_name address) }) no_name

-- with the name of its bad line, and with which of its fields are zero
unfoldable pub program_with : Name → Zeros → Reads → Instruction → ℕ → Prog ℕ (P.Modeled ℕ)
program_with name z e i address =
    let k = kind_at i.kind in
    translate (operands_of e.operands) (flows_of e.flows) e.register.0 e.memory.0 (constant_of k i.imm address) name k z

abbrev pub program_from : Reads → ℕ → Instruction → ℕ → Prog ℕ (P.Modeled ℕ)
program_from e names i address =
    let z = zeros_of i in
    program_with (name_for (class (kind_at i.kind)) z names address) z e i address
