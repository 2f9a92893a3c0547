-- What a format says of its fields: RISC-V Unprivileged ISA manual (20191213), sections 2.2, "Base Instruction Formats", and 2.3, "Immediate
-- Encoding Variants", with the ranges of document 01's refusal 2.
use Rattle.std.specs.Prelude.{ℕ, ◌-◌, ◌%◌, ◌^◌, Bool, true, false, ◌&&◌, ◌||◌, not, eqb, ltb, leb}
use Rattle.riscv.specs.declared.Format.{Format}
use Rattle.riscv.specs.declared.Format.TheVariants.{R, I, S, B, U, J, System}
use Rattle.riscv.specs.declared.Kind.{Kind}
use Rattle.riscv.specs.Kind.{row_of}

abbrev pub format : Kind → Format
format k = (row_of k).format

-- x0 to x31
abbrev pub last_register : ℕ
last_register = 31

-- "a register field the kind uses is above 31": R has rd, rs1 and rs2, I rd and rs1, S and B rs1 and rs2, U and J rd
abbrev pub registers_out : Format → ℕ → ℕ → ℕ → Bool
registers_out R rd rs1 rs2 = ltb last_register rd || (ltb last_register rs1 || ltb last_register rs2)
registers_out I rd rs1 rs2 = ltb last_register rd || ltb last_register rs1
registers_out S rd rs1 rs2 = ltb last_register rs1 || ltb last_register rs2
registers_out B rd rs1 rs2 = ltb last_register rs1 || ltb last_register rs2
registers_out U rd rs1 rs2 = ltb last_register rd
registers_out J rd rs1 rs2 = ltb last_register rd
registers_out System rd rs1 rs2 = false

-- a word, read as signed, is from -m to n
abbrev pub between : ℕ → ℕ → ℕ → Bool
between m n imm = leb imm n || leb (2 ^ 64 - m) imm

abbrev pub even : ℕ → Bool
even imm = eqb (imm % 2) 0

-- "imm is outside its format"
abbrev pub immediate_out : Format → ℕ → Bool
immediate_out R imm = false
immediate_out I imm = not (between 2048 2047 imm)
immediate_out S imm = not (between 2048 2047 imm)
immediate_out B imm = not (even imm && between 4096 4094 imm)
immediate_out U imm = ltb 1048575 imm
immediate_out J imm = not (even imm && between 1048576 1048574 imm)
immediate_out System imm = false

-- the formats with a destination register
abbrev pub writes_rd : Format → Bool
writes_rd R = true
writes_rd I = true
writes_rd S = false
writes_rd B = false
writes_rd U = true
writes_rd J = true
writes_rd System = false
