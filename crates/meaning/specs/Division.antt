-- Which divisions are ordinary: document 02, R-4. The operands are the values of rs1, the dividend, and rs2, the divisor.
use Rattle.std.specs.Prelude.{ℕ, ◌-◌, ◌%◌, ◌^◌, Bool, ◌&&◌, ◌||◌, not, [], ◌∷◌, eqb}
use Rattle.riscv.specs.declared.Kind.{Kind}
use Rattle.riscv.specs.declared.Kind.TheVariants.{Div, Divw}
use Rattle.riscv.specs.Kind.{one_of}

-- "for Divw both on the low 32 bits", as RISC-V manual, section 7.2: "divide the lower 32 bits of rs1 by the lower 32 bits of rs2"
abbrev pub low32 : ℕ → ℕ
low32 x = x % 2 ^ 32

-- −2^31, the least integer of 32 bits, and −1, as 32 bits
abbrev pub least32 : ℕ
least32 = 2 ^ 31

abbrev pub minus_one32 : ℕ
minus_one32 = 2 ^ 32 - 1

-- the divisor is zero
abbrev pub by_zero : Kind → ℕ → Bool
by_zero k rs2 = (one_of k (Div ∷ []) && eqb rs2 0) || (one_of k (Divw ∷ []) && eqb (low32 rs2) 0)

-- "A motor scaling routine divided −2^31 by −1": the pair at which Divw's lines give +2^31. Div's lines agree with the manual at −2^63 by −1.
abbrev pub least_by_minus_one : Kind → ℕ → ℕ → Bool
least_by_minus_one k rs1 rs2 = one_of k (Divw ∷ []) && (eqb (low32 rs1) least32 && eqb (low32 rs2) minus_one32)

-- "Call a division ordinary when its divisor isn't zero and, for Divw, the pair isn't this one". Nothing is asked of another kind.
abbrev pub ordinary : Kind → ℕ → ℕ → Bool
ordinary k rs1 rs2 = not (by_zero k rs2) && not (least_by_minus_one k rs1 rs2)
