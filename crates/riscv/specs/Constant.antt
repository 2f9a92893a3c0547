-- The constant that a kind's lines have (unicorn's `translate_to_model`).
use Rattle.std.specs.Prelude.{ℕ, ◌+◌, ◌-◌, ◌*◌, ◌%◌, ◌^◌, cond, List, [], ◌∷◌, eqb, ltb}
use Rattle.riscv.specs.declared.Kind.{Kind}
use Rattle.riscv.specs.declared.Kind.TheVariants.{Lui, Auipc, Srai, Slliw, Srliw, Sraiw, Jal, Jalr}
use Rattle.riscv.specs.Kind.{kind_number}

-- `((imm as i32) << 12) as u64`
unfoldable pub upper : ℕ → ℕ
upper imm = cond (ltb (imm % 2 ^ 20) (2 ^ 19)) (imm % 2 ^ 20 * 2 ^ 12) (imm % 2 ^ 20 * 2 ^ 12 + (2 ^ 64 - 2 ^ 32))

-- what a table has for a kind, or x where it has no row for it
abbrev pub in_table : ℕ → Kind → List (Kind × ℕ) → ℕ
in_table x k [] = x
in_table x k (row ∷ rows) = cond (eqb (kind_number k) (kind_number row.0)) row.1 (in_table x k rows)

-- the constant that a kind's lines have: its immediate, but for these kinds
unfoldable pub constant_of : Kind → ℕ → ℕ → ℕ
constant_of k imm address =
    in_table imm k
    ((Lui, upper imm)
    ∷ (Auipc, (upper imm + address) % 2 ^ 64)
    ∷ (Srai, imm % 64)
    ∷ (Slliw, (imm + 32) % 2 ^ 64)
    ∷ (Srliw, (imm + 32) % 2 ^ 64)
    ∷ (Sraiw, imm % 64 + 32)
    ∷ (Jal, (address + 4) % 2 ^ 64)
    ∷ (Jalr, (address + 4) % 2 ^ 64)
    ∷ [])
