-- Which of an instruction's fields are zero.
use Rattle.std.specs.Prelude.{eqb}
use Rattle.riscv.specs.declared.Instruction.{Instruction}
use Rattle.riscv.specs.declared.Zeros.{Zeros}

-- imm is 0, rd is x0, rs1 is x0
abbrev pub zeros_of : Instruction → Zeros
zeros_of i = record { imm = eqb i.imm 0; rd = eqb i.rd 0; rs1 = eqb i.rs1 0 }
