-- A test that antt computes for every kind, and for each choice of the fields that are zero, holds of each: a new kind changes nothing in a
-- proof by it. Assumes nothing.
use Prim.Native.Nat.{ℕ, ◌<◌}
use mathlib.Core.Path.{◌≡◌, sym, subst, ◌∙◌}
use mathlib.Core.Bool.{Bool, true, false, ◌&&◌}
use lib.Dec.{T, lit<}
use Rattle.bitvec.proofs.Base.{by_le}
use Rattle.bitvec.proofs.Below.{all_below, at, left, right}
use Rattle.riscv.specs.declared.Zeros.{Zeros}
use Rattle.riscv.specs.declared.Kind.{Kind}
use Rattle.riscv.specs.declared.Kind.TheVariants.{Ecall}
use Rattle.riscv.specs.Kind.{kind_count, kind_at, kind_number}
use Rattle.riscv.proofs.Numbered.{kind_back, kind_past}

number_below_lem : (k : Kind) → kind_number k < kind_count
number_below_lem k = by_le kind_count (kind_number k) (λ l. late (sym (kind_past (kind_number k) l) ∙ kind_back k)) (λ l. l)
  where
    late : Ecall ≡ k → kind_number k < kind_count
    late e = subst (λ (j : Kind). kind_number j < kind_count) e (lit< tt)

-- a test of every kind
abbrev pub every_kind : (Kind → Bool) → Bool
every_kind test = all_below kind_count (λ n. test (kind_at n))

pub by_kind : (test : Kind → Bool) → T (every_kind test) → (k : Kind) → T (test k)
by_kind test h k = subst (λ (j : Kind). T (test j)) (kind_back k) (at kind_count (λ (n : ℕ). test (kind_at n)) h (kind_number k) (number_below_lem k))

-- ---- the fields that are zero

abbrev pub zeros : Bool → Bool → Bool → Zeros
zeros imm rd rs1 = record { imm = imm; rd = rd; rs1 = rs1 }

abbrev pub two : (Bool → Bool) → Bool
two test = test true && test false

of_two : (test : Bool → Bool) → T (two test) → (b : Bool) → T (test b)
of_two test h true = left (test true) (test false) h
of_two test h false = right (test true) (test false) h

abbrev pub eight : (Zeros → Bool) → Bool
eight test = two (λ imm. two (λ rd. two (λ rs1. test (zeros imm rd rs1))))

pub of_eight : (test : Zeros → Bool) → T (eight test) → (z : Zeros) → T (test z)
of_eight test h z =
    of_two (λ s. test (zeros z.imm z.rd s))
    (of_two (λ d. two (λ s. test (zeros z.imm d s))) (of_two (λ i. two (λ d. two (λ s. test (zeros i d s)))) h z.imm) z.rd) z.rs1

-- ---- both

abbrev pub every_case : (Kind → Zeros → Bool) → Bool
every_case test = every_kind (λ k. eight (test k))

pub by_case : (test : Kind → Zeros → Bool) → T (every_case test) → (k : Kind) (z : Zeros) → T (test k z)
by_case test h k z = of_eight (test k) (by_kind (λ k. eight (test k)) h k) z
