-- How many bytes a load or a store reaches: RISC-V Unprivileged ISA manual (20191213), sections 2.6 and 5.3.
use Rattle.std.specs.Prelude.{ℕ, ◌+◌, ◌%◌, ◌^◌, ◌≤◌, cond, [], ◌∷◌}
use Rattle.riscv.specs.declared.Kind.{Kind}
use Rattle.riscv.specs.declared.Kind.TheVariants.{Lb, Lh, Lw, Ld, Lbu, Lhu, Sb, Sh, Sw, Sd}
use Rattle.riscv.specs.Kind.{one_of}

-- 0 for a kind that is neither
abbrev pub access_bytes : Kind → ℕ
access_bytes k =
    cond (one_of k (Lb ∷ Lbu ∷ Sb ∷ [])) 1
    (cond (one_of k (Lh ∷ Lhu ∷ Sh ∷ [])) 2 (cond (one_of k (Lw ∷ Sw ∷ [])) 4 (cond (one_of k (Ld ∷ Sd ∷ [])) 8 0)))

-- a load or store from the effective address, rs1 plus imm, on stays in one aligned 8-byte word
abbrev pub InOneWord : Kind → ℕ → ℕ → Type 0
InOneWord k rs1 imm = (rs1 + imm) % 2 ^ 64 % 8 + access_bytes k ≤ 8
