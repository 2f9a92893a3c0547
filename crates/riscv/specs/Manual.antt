-- What an instruction that completes does to rd or to memory: RISC-V Unprivileged ISA manual (20191213), RV64IM. Registers and
-- addresses are numbers below 2 ^ 64; memory is a byte at each address. Traps are not modelled (document 01, "Start, storage,
-- evaluation"). Nothing here is shared with the lowering but arithmetic.
use Rattle.std.specs.Prelude.{ℕ, ◌+◌, ◌-◌, ◌*◌, ◌/◌, ◌%◌, ◌^◌, cond, eqb, leb}
use Rattle.std.specs.Int.Bits.{bit_and, bit_or, bit_xor}
use Rattle.bitvec.specs.TwosComplement.{sext, sra, sltu, quot}
use Rattle.bitvec.specs.Bytes.{load_bytes, store_bytes}
use Rattle.riscv.specs.declared.Kind.{Kind}
use Rattle.riscv.specs.declared.Kind.TheVariants.{Lui, Auipc, Lb, Lh, Lw, Ld, Lbu, Lhu, Sb, Sh, Sw, Sd, Addi, Sltiu, Xori, Ori, Andi, Slli, Srli, Srai, Addiw, Slliw, Srliw, Sraiw, Add, Sub, Sll, Sltu, Srl, Sra, Or, And, Mul, Div, Divu, Remu, Addw, Divw, Subw, Sllw, Mulw, Beq, Bne, Blt, Bge, Bltu, Bgeu, Jal, Jalr, Ecall}

-- neither rd nor memory changes; rd takes a value; memory takes these bytes
pub data Effect : Type 0 where
  nothing : Effect
  sets_rd : ℕ → Effect
  sets_memory : (ℕ → ℕ) → Effect

-- section 1.4, "Memory": the address space is circular, the byte at 2 ^ 64 - 1 being next to that at 0
unfoldable pub load_at : (ℕ → ℕ) → ℕ → ℕ → ℕ
load_at memory a n = load_bytes (λ i. memory (i % 2 ^ 64)) a n

unfoldable pub store_at : (ℕ → ℕ) → ℕ → ℕ → ℕ → ℕ → ℕ
store_at memory a n v i = store_bytes (λ j. memory (j % 2 ^ 64)) a n v (cond (leb a i) i (i + 2 ^ 64))

module _ (imm pc rs1 rs2 : ℕ) (memory : ℕ → ℕ) where
  -- section 2.4, LUI, and 5.2: the 20 bits with 12 zeros below, sign-extended from 32 bits
  abbrev upper : ℕ
  upper = sext 32 64 (imm * 2 ^ 12)

  -- section 2.6: the effective address is rs1 plus the sign-extended offset
  abbrev address : ℕ
  address = (rs1 + imm) % 2 ^ 64

  unfoldable pub manual : Kind → Effect
  -- section 2.4 and 5.2, "Integer Register-Immediate Instructions": LUI, AUIPC
  manual Lui = sets_rd upper
  manual Auipc = sets_rd ((pc + upper) % 2 ^ 64)
  -- sections 2.6 and 5.3, "Load and Store Instructions": LB, LH, LW sign-extend, LBU, LHU zero-extend
  manual Lb = sets_rd (sext 8 64 (load_at memory address 1))
  manual Lh = sets_rd (sext 16 64 (load_at memory address 2))
  manual Lw = sets_rd (sext 32 64 (load_at memory address 4))
  manual Ld = sets_rd (load_at memory address 8)
  manual Lbu = sets_rd (load_at memory address 1)
  manual Lhu = sets_rd (load_at memory address 2)
  -- SB, SH, SW, SD store the low bytes of rs2
  manual Sb = sets_memory (store_at memory address 1 rs2)
  manual Sh = sets_memory (store_at memory address 2 rs2)
  manual Sw = sets_memory (store_at memory address 4 rs2)
  manual Sd = sets_memory (store_at memory address 8 rs2)
  -- section 2.4, "Integer Register-Immediate Instructions": ADDI, SLTIU, XORI, ORI, ANDI on the sign-extended immediate
  manual Addi = sets_rd ((rs1 + imm) % 2 ^ 64)
  manual Sltiu = sets_rd (sltu rs1 imm)
  manual Xori = sets_rd (bit_xor rs1 imm)
  manual Ori = sets_rd (bit_or rs1 imm)
  manual Andi = sets_rd (bit_and rs1 imm)
  -- section 5.2: SLLI, SRLI, SRAI, the amount in the low 6 bits of the immediate
  manual Slli = sets_rd (rs1 * 2 ^ (imm % 64) % 2 ^ 64)
  manual Srli = sets_rd (rs1 / 2 ^ (imm % 64))
  manual Srai = sets_rd (sra 64 rs1 (imm % 64))
  -- section 5.2: ADDIW, SLLIW, SRLIW, SRAIW on the low 32 bits, the result sign-extended, the amount in the low 5 bits
  manual Addiw = sets_rd (sext 32 64 (rs1 + imm))
  manual Slliw = sets_rd (sext 32 64 (rs1 * 2 ^ (imm % 32)))
  manual Srliw = sets_rd (sext 32 64 (rs1 % 2 ^ 32 / 2 ^ (imm % 32)))
  manual Sraiw = sets_rd (sext 32 64 (sra 32 (rs1 % 2 ^ 32) (imm % 32)))
  -- sections 2.4 and 5.2, "Integer Register-Register Operations": overflow is ignored; a shift's amount is in the low 6 bits of rs2
  manual Add = sets_rd ((rs1 + rs2) % 2 ^ 64)
  manual Sub = sets_rd ((rs1 + (2 ^ 64 - rs2)) % 2 ^ 64)
  manual Sll = sets_rd (rs1 * 2 ^ (rs2 % 64) % 2 ^ 64)
  manual Sltu = sets_rd (sltu rs1 rs2)
  manual Srl = sets_rd (rs1 / 2 ^ (rs2 % 64))
  manual Sra = sets_rd (sra 64 rs1 (rs2 % 64))
  manual Or = sets_rd (bit_or rs1 rs2)
  manual And = sets_rd (bit_and rs1 rs2)
  -- section 7.1, "Multiplication Operations": MUL gives the low 64 bits of the product
  manual Mul = sets_rd (rs1 * rs2 % 2 ^ 64)
  -- section 7.2, "Division Operations": by zero the quotient has all bits set and the remainder is the dividend; the quotient of the
  -- least number by -1 is the least number
  manual Div = sets_rd (cond (eqb rs2 0) (2 ^ 64 - 1) (quot 64 rs1 rs2))
  manual Divu = sets_rd (cond (eqb rs2 0) (2 ^ 64 - 1) (rs1 / rs2))
  manual Remu = sets_rd (cond (eqb rs2 0) rs1 (rs1 % rs2))
  -- section 5.2: ADDW, SUBW, SLLW; 7.1 and 7.2: MULW, DIVW. On the low 32 bits, the result sign-extended; SLLW's amount is in the low
  -- 5 bits of rs2
  manual Addw = sets_rd (sext 32 64 (rs1 + rs2))
  manual Divw = sets_rd (sext 32 64 (cond (eqb (rs2 % 2 ^ 32) 0) (2 ^ 32 - 1) (quot 32 (rs1 % 2 ^ 32) (rs2 % 2 ^ 32))))
  manual Subw = sets_rd (sext 32 64 (rs1 + (2 ^ 64 - rs2)))
  manual Sllw = sets_rd (sext 32 64 (rs1 * 2 ^ (rs2 % 32)))
  manual Mulw = sets_rd (sext 32 64 (rs1 * rs2))
  -- section 2.5, "Conditional Branches": they write no register
  manual Beq = nothing
  manual Bne = nothing
  manual Blt = nothing
  manual Bge = nothing
  manual Bltu = nothing
  manual Bgeu = nothing
  -- section 2.5, "Unconditional Jumps": JAL and JALR store the address of the instruction that follows
  manual Jal = sets_rd ((pc + 4) % 2 ^ 64)
  manual Jalr = sets_rd ((pc + 4) % 2 ^ 64)
  -- section 2.8, "Environment Call and Breakpoints"
  manual Ecall = nothing
