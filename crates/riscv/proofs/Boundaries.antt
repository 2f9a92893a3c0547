-- Refusals 1 to 6 and the need of a flag at their boundaries, as document 01 words them; antt computes the tables. Assumes nothing.
use Prim.Native.Nat.{ℕ, ◌+◌, ◌-◌, ◌^◌}
use mathlib.Core.Path.{◌≡◌, refl}
use mathlib.Core.Bool.{Bool, true, ◌&&◌, not}
use mathlib.Core.List.{List, [], ◌∷◌}
use lib.Dec.{eqb}
use Rattle.riscv.specs.declared.Instruction.{Instruction}
use Rattle.riscv.specs.declared.Kind.{Kind}
use Rattle.riscv.specs.declared.Kind.TheVariants.{Lui, Lb, Sb, Addi, Slli, Srai, Slliw, Srliw, Sraiw, Add, Beq, Jal, Jalr, Ecall}
use Rattle.riscv.specs.Kind.{kind_number}
use Rattle.riscv.specs.Zeros.{zeros_of}
use Rattle.riscv.specs.Class.{needs_flag}
use Rattle.riscv.specs.Refusal.{refusal}

-- the fields in their order: kind's number, rd, rs1, rs2, imm
abbrev numbered : ℕ → ℕ → ℕ → ℕ → ℕ → Instruction
numbered kind rd rs1 rs2 imm = record { kind = kind; rd = rd; rs1 = rs1; rs2 = rs2; imm = imm }

abbrev of : Kind → ℕ → ℕ → ℕ → ℕ → Instruction
of k = numbered (kind_number k)

-- the word of a negative number
abbrev minus : ℕ → ℕ
minus n = 2 ^ 64 - n

abbrev refusals : List (Instruction × ℕ)
refusals =
    -- 1: the 50 kinds have the numbers 0 to 49; Ecall uses no field
    (of Ecall 32 32 32 5, 0) ∷ (numbered 50 0 0 0 0, 1) ∷ (numbered (minus 1) 0 0 0 0, 1)
    -- 2: the registers that a format uses
    ∷ (of Add 31 31 31 0, 0) ∷ (of Add 32 1 1 0, 2) ∷ (of Add 1 32 1 0, 2) ∷ (of Add 1 1 32 0, 2)
    ∷ (of Addi 32 1 0 0, 2) ∷ (of Addi 1 32 0 0, 2) ∷ (of Addi 1 1 32 0, 0) ∷ (of Sb 32 1 1 0, 0) ∷ (of Sb 0 1 32 0, 2)
    -- 2: the immediate of a format
    ∷ (of Addi 1 1 0 2047, 0) ∷ (of Addi 1 1 0 2048, 2) ∷ (of Addi 1 1 0 (minus 2048), 0) ∷ (of Addi 1 1 0 (minus 2049), 2)
    ∷ (of Beq 0 1 1 4094, 0) ∷ (of Beq 0 1 1 4096, 2) ∷ (of Beq 0 1 1 (minus 4096), 0) ∷ (of Beq 0 1 1 3, 2)
    ∷ (of Lui 1 0 0 1048575, 0) ∷ (of Lui 1 0 0 1048576, 2) ∷ (of Jal 1 0 0 1048574, 0) ∷ (of Jal 1 0 0 (minus 1048578), 2)
    -- 3: the amount of a shift
    ∷ (of Slli 1 1 0 63, 0) ∷ (of Slli 1 1 0 64, 3) ∷ (of Slliw 1 1 0 31, 0) ∷ (of Slliw 1 1 0 32, 3)
    ∷ (of Sraiw 1 1 0 (1024 + 31), 0) ∷ (of Sraiw 1 1 0 (1024 + 32), 3) ∷ (of Srai 1 1 0 (1024 + 63), 0)
    -- 4 before 5
    ∷ (of Srliw 0 1 0 0, 4) ∷ (of Srliw 0 1 0 1, 5) ∷ (of Srliw 1 1 0 1, 0)
    -- 5: rd x0
    ∷ (of Lb 0 1 0 0, 5) ∷ (of Sb 0 1 1 0, 0) ∷ (of Addi 0 1 0 5, 0) ∷ (of Jal 0 0 0 8, 0) ∷ (of Jalr 0 1 0 0, 0)
    -- 6: Jalr under a register with an offset
    ∷ (of Jalr 1 1 0 4, 6) ∷ (of Jalr 1 0 0 4, 0) ∷ (of Jalr 1 1 0 0, 0)
    ∷ []

refused_as : List (Instruction × ℕ) → Bool
refused_as [] = true
refused_as (c ∷ cs) = eqb (refusal c.0) c.1 && refused_as cs

refused : refused_as refusals ≡ true
unfolding refused_as refusal
refused = refl

-- 7: "Branches, Addi and Jal with rd x0, and Jalr with rd x0 and rs1 not x0 need none"
asks : Kind → Instruction → Bool
asks k i = needs_flag k (zeros_of i)

flags : (asks Jalr (of Jalr 1 1 0 0) && asks Jalr (of Jalr 0 0 0 0) && not (asks Jalr (of Jalr 0 1 0 0)) && not (asks Jal (of Jal 0 0 0 8)) && not (asks Addi (of Addi 0 1 0 5)) && not (asks Beq (of Beq 0 1 1 8))) ≡ true
unfolding asks
flags = refl
