-- An instruction in a text of cases: five decimal numbers.
use Rattle.std.specs.Prelude.{ℕ, List}
use Rattle.riscv.specs.declared.Instruction.{Instruction}
use Rattle.cases.specs.Scan.{Read, read, number_from}

unfoldable pub instruction_from : List ℕ → ℕ → Read Instruction
instruction_from text from =
    let kind = number_from text from in
    let rd = number_from text kind.next in
    let rs1 = number_from text rd.next in
    let rs2 = number_from text rs1.next in
    let imm = number_from text rs2.next in
    read (record { kind = kind.value; rd = rd.value; rs1 = rs1.value; rs2 = rs2.value; imm = imm.value }) imm.next
