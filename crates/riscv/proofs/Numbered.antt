-- A kind is what its number says. Assumes nothing.
use Prim.Native.Nat.{ℕ, ◌≤◌, ◌<◌}
use mathlib.Core.Path.{◌≡◌, refl, sym, ap, ◌∙◌}
use mathlib.Core.Bool.{Bool, false}
use borrow.Author.Tests.{ne_eqb}
use lib.Dec.{eqb, eqb→eq}
use lib.ListN.{get_or-eq_default}
use Rattle.std.specs.Prelude.{Some, None, slice_get}
use Rattle.std.proofs.lemmas.Option.{get_or_from_slice_get, slice_get_past, slice_get-get_or}
use Rattle.bitvec.proofs.Base.{by_le}
use Rattle.riscv.specs.declared.Kind.{Kind}
use Rattle.riscv.specs.declared.Kind.TheVariants.{Lui, Auipc, Lb, Lh, Lw, Ld, Lbu, Lhu, Sb, Sh, Sw, Sd, Addi, Sltiu, Xori, Ori, Andi, Slli, Srli, Srai, Addiw, Slliw, Srliw, Sraiw, Add, Sub, Sll, Sltu, Srl, Sra, Or, And, Mul, Div, Divu, Remu, Addw, Divw, Subw, Sllw, Mulw, Beq, Bne, Blt, Bge, Bltu, Bgeu, Jal, Jalr, Ecall}
use Rattle.riscv.specs.Kind.{kinds, kind_count, kind_at, kind_number}
use Rattle.bitvec.proofs.Below.{at}

same : ℕ → Bool
same n = eqb (kind_number (kind_at n)) n

pub number_at : (n : ℕ) → n < kind_count → kind_number (kind_at n) ≡ n
unfolding same
number_at n h = eqb→eq (kind_number (kind_at n)) n (at kind_count same tt n h)

pub kind_back : (k : Kind) → kind_at (kind_number k) ≡ k
kind_back Lui = refl
kind_back Auipc = refl
kind_back Lb = refl
kind_back Lh = refl
kind_back Lw = refl
kind_back Ld = refl
kind_back Lbu = refl
kind_back Lhu = refl
kind_back Sb = refl
kind_back Sh = refl
kind_back Sw = refl
kind_back Sd = refl
kind_back Addi = refl
kind_back Sltiu = refl
kind_back Xori = refl
kind_back Ori = refl
kind_back Andi = refl
kind_back Slli = refl
kind_back Srli = refl
kind_back Srai = refl
kind_back Addiw = refl
kind_back Slliw = refl
kind_back Srliw = refl
kind_back Sraiw = refl
kind_back Add = refl
kind_back Sub = refl
kind_back Sll = refl
kind_back Sltu = refl
kind_back Srl = refl
kind_back Sra = refl
kind_back Or = refl
kind_back And = refl
kind_back Mul = refl
kind_back Div = refl
kind_back Divu = refl
kind_back Remu = refl
kind_back Addw = refl
kind_back Divw = refl
kind_back Subw = refl
kind_back Sllw = refl
kind_back Mulw = refl
kind_back Beq = refl
kind_back Bne = refl
kind_back Blt = refl
kind_back Bge = refl
kind_back Bltu = refl
kind_back Bgeu = refl
kind_back Jal = refl
kind_back Jalr = refl
kind_back Ecall = refl

-- what is no other kind is Ecall
pub kind_past : (n : ℕ) → kind_count ≤ n → kind_at n ≡ Ecall
kind_past n h = get_or-eq_default kinds Ecall {n = n} h

-- two kinds have two numbers
pub apart : (k j : Kind) → (k ≡ j → ⊥) → eqb (kind_number k) (kind_number j) ≡ false
apart k j other = ne_eqb (kind_number k) (kind_number j) (λ e. other (sym (kind_back k) ∙ ap kind_at e ∙ kind_back j))

-- which numbers are a kind's
pub found : (n : ℕ) (k : Kind) → slice_get kinds n ≡ Some k → kind_at n ≡ k
found n k e = get_or_from_slice_get kinds n k Ecall e

pub found_within : (n : ℕ) (k : Kind) → slice_get kinds n ≡ Some k → n < kind_count
found_within n k e = by_le kind_count n (λ l. let late : Some k ≡ None = sym e ∙ slice_get_past kinds n l in cc) (λ l. l)

pub not_found : (n : ℕ) → slice_get kinds n ≡ None → kind_count ≤ n
not_found n e = by_le kind_count n (λ l. l) (λ l. let there : None ≡ Some (kind_at n) = sym e ∙ slice_get-get_or kinds n Ecall l in cc)
