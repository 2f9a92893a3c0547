-- Refusals 1 to 6 (document 01, "Who can be refused, and with what": whoever wrote or decoded the firmware).
use Rattle.std.specs.Prelude.{ℕ, ◌%◌, Bool, cond, ◌&&◌, ◌||◌, not, List, [], ◌∷◌, eqb, ltb}
use Rattle.riscv.specs.declared.Instruction.{Instruction}
use Rattle.riscv.specs.declared.Kind.{Kind}
use Rattle.riscv.specs.declared.Kind.TheVariants.{Slli, Srli, Slliw, Srliw, Sraiw, Jalr}
use Rattle.riscv.specs.Kind.{kind_count, kind_at, one_of}
use Rattle.riscv.specs.Format.{format, registers_out, immediate_out, writes_rd}
use Rattle.riscv.specs.Class.{class, takes_zero_rd}

-- 3: "Slli, Srli not 0 to 63; Slliw, Srliw not 0 to 31; Sraiw with imm mod 64 above 31. Srai takes imm mod 64". A negative amount is a
-- word far above 63.
abbrev pub amount_out : Kind → ℕ → Bool
amount_out k imm =
    (one_of k (Slli ∷ Srli ∷ []) && ltb 63 imm) || ((one_of k (Slliw ∷ Srliw ∷ []) && ltb 31 imm) || (one_of k (Sraiw ∷ []) && ltb 31 (imm % 64)))

-- 4: "Srliw with 0"
abbrev pub zero_srliw : Kind → ℕ → Bool
zero_srliw k imm = one_of k (Srliw ∷ []) && eqb imm 0

-- 5: "rd x0, for a kind that writes rd, other than Addi, Jal, Jalr"
abbrev pub zero_rd : Kind → ℕ → Bool
zero_rd k rd = eqb rd 0 && (writes_rd (format k) && not (takes_zero_rd (class k)))

-- 6: "Jalr with rs1 not x0 and imm not 0"
abbrev pub indirect_offset : Kind → ℕ → ℕ → Bool
indirect_offset k rs1 imm = one_of k (Jalr ∷ []) && (not (eqb rs1 0) && not (eqb imm 0))

-- the number of the first test that holds, or 0
abbrev pub first : List (Bool × ℕ) → ℕ
first [] = 0
first (t ∷ ts) = cond t.0 t.1 (first ts)

unfoldable pub refusal : Instruction → ℕ
refusal i =
    let k = kind_at i.kind in
    first
    ((not (ltb i.kind kind_count), 1)
    ∷ (registers_out (format k) i.rd i.rs1 i.rs2, 2)
    ∷ (immediate_out (format k) i.imm, 2)
    ∷ (amount_out k i.imm, 3)
    ∷ (zero_srliw k i.imm, 4)
    ∷ (zero_rd k i.rd, 5)
    ∷ (indirect_offset k i.rs1 i.imm, 6)
    ∷ [])
