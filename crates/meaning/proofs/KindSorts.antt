-- Each kind but Mul and Mulw: its lines meet the sort rule where the roles have their sorts and the flag is a Bit. What any kind gives has its
-- sort. A kind that needs no flag names none. Assumes nothing.
use Prim.Native.Nat.{ℕ, ◌^◌, ◌<◌}
use mathlib.Core.Path.{◌≡◌, refl}
use mathlib.Core.Bool.{Bool, true, false, not, ◌||◌}
use lib.Dec.{T}
use borrow.Author.Tests.{lt-ltb}
use Rattle.btor2.specs.declared.Name.{Name}
use Rattle.btor2.specs.SortRule.{all_right}
use Rattle.riscv.specs.declared.Zeros.{Zeros}
use Rattle.riscv.specs.Class.{needs_flag}
use Rattle.riscv.proofs.EachKind.{zeros, every_case, by_case}
use Rattle.riscv.specs.declared.Kind.{Kind}
use Rattle.riscv.specs.declared.Kind.TheVariants.{Lui, Auipc, Lb, Lh, Lw, Ld, Lbu, Lhu, Sb, Sh, Sw, Sd, Addi, Sltiu, Xori, Ori, Andi, Slli, Srli, Srai, Addiw, Slliw, Srliw, Sraiw, Add, Sub, Sll, Sltu, Srl, Sra, Or, And, Mul, Div, Divu, Remu, Addw, Divw, Subw, Sllw, Mulw, Beq, Bne, Blt, Bge, Bltu, Bgeu, Jal, Jalr, Ecall}
use Rattle.models.specs.Places.{Operands, Flows}
use Rattle.lowering_laws.proofs.EachKind.{reading}
use Rattle.lowering_laws.proofs.Template.{Role, template}
use Rattle.meaning.specs.Condition.{excluded}
use Rattle.meaning.proofs.Roles.{ruled, marked}

module _ (n : ℕ) (st rt : Role → Bool) (imm : ℕ) (h : imm < 2 ^ 64) (name : Name) where
  kept : Kind → Zeros → Bool
  kept k z = excluded k || ruled n st rt (template imm name k z)

  all_kept : T (every_case kept)
  unfolding kept template ruled all_right
  all_kept = rw (lt-ltb imm (2 ^ 64) h) tt

  pub kind_sorts : (k : Kind) (z : Zeros) → T (not (excluded k)) → T (ruled n st rt (template imm name k z))
  unfolding kept
  kind_sorts k z v = other (excluded k) (ruled n st rt (template imm name k z)) v (by_case kept all_kept k z)
    where
      other : (a b : Bool) → T (not a) → T (a || b) → T b
      other true b h g = absurd h
      other false b h g = g

-- what every kind gives has its sort, whatever its constant
module _ (n : ℕ) (st rt : Role → Bool) (imm : ℕ) (name : Name) where
  sorted : Kind → Zeros → Bool
  sorted k z = marked n st rt (needs_flag k z) (template imm name k z)

  all_sorted : T (every_case sorted)
  unfolding sorted template marked
  all_sorted = tt

  pub kind_marks : (k : Kind) (z : Zeros) → T (marked n st rt (needs_flag k z) (template imm name k z))
  unfolding sorted
  kind_marks k z = by_case sorted all_sorted k z

abbrev pub with_flag : {A : Type 0} → A → Operands A → Operands A
with_flag x e = record { flag = x; rs1 = e.rs1; rs2 = e.rs2; zero = e.zero; one = e.one; true_bit = e.true_bit; memory = e.memory; counter = e.counter; maximum = e.maximum }

module _ {A : Type 0} (at : ℕ → A) (e : Operands A) (x : A) (f : Flows A) (r m : A) (imm : ℕ) (name : Name) where
  by_fields : (k : Kind) (z d s : Bool) → T (not (needs_flag k (zeros z d s))) → reading at e f r m imm name k (zeros z d s) ≡ reading at (with_flag x e) f r m imm name k (zeros z d s)
  unfolding reading
  by_fields Lui z d s h = absurd h
  by_fields Auipc z d s h = absurd h
  by_fields Lb z d s h = absurd h
  by_fields Lh z d s h = absurd h
  by_fields Lw z d s h = absurd h
  by_fields Ld z d s h = absurd h
  by_fields Lbu z d s h = absurd h
  by_fields Lhu z d s h = absurd h
  by_fields Sb z d s h = absurd h
  by_fields Sh z d s h = absurd h
  by_fields Sw z d s h = absurd h
  by_fields Sd z d s h = absurd h
  by_fields Addi z true s h = refl
  by_fields Addi true false s h = absurd h
  by_fields Addi false false true h = absurd h
  by_fields Addi false false false h = absurd h
  by_fields Sltiu z d s h = absurd h
  by_fields Xori z d s h = absurd h
  by_fields Ori z d s h = absurd h
  by_fields Andi z d s h = absurd h
  by_fields Slli z d s h = absurd h
  by_fields Srli z d s h = absurd h
  by_fields Srai z d s h = absurd h
  by_fields Addiw z d s h = absurd h
  by_fields Slliw z d s h = absurd h
  by_fields Srliw z d s h = absurd h
  by_fields Sraiw z d s h = absurd h
  by_fields Add z d s h = absurd h
  by_fields Sub z d s h = absurd h
  by_fields Sll z d s h = absurd h
  by_fields Sltu z d s h = absurd h
  by_fields Srl z d s h = absurd h
  by_fields Sra z d s h = absurd h
  by_fields Or z d s h = absurd h
  by_fields And z d s h = absurd h
  by_fields Mul z d s h = absurd h
  by_fields Div z d s h = absurd h
  by_fields Divu z d s h = absurd h
  by_fields Remu z d s h = absurd h
  by_fields Addw z d s h = absurd h
  by_fields Divw z d s h = absurd h
  by_fields Subw z d s h = absurd h
  by_fields Sllw z d s h = absurd h
  by_fields Mulw z d s h = absurd h
  by_fields Beq z d s h = refl
  by_fields Bne z d s h = refl
  by_fields Blt z d s h = refl
  by_fields Bge z d s h = refl
  by_fields Bltu z d s h = refl
  by_fields Bgeu z d s h = refl
  by_fields Jal z true s h = refl
  by_fields Jal z false s h = absurd h
  by_fields Jalr z true true h = absurd h
  by_fields Jalr z true false h = refl
  by_fields Jalr z false true h = absurd h
  by_fields Jalr z false false h = absurd h
  by_fields Ecall z d s h = absurd h

  pub unflagged : (k : Kind) (z : Zeros) → T (not (needs_flag k z)) → reading at e f r m imm name k z ≡ reading at (with_flag x e) f r m imm name k z
  unflagged k z h = by_fields k z.imm z.rd z.rs1 h
