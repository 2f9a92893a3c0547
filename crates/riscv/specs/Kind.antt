-- The kinds of instruction, in the order of the first `match` of unicorn's `translate_to_model`, and the row of each.
use Rattle.std.specs.Prelude.{ℕ, Bool, false, ◌||◌, List, [], ◌∷◌, map, eqb, length, get_or}
use Prim.Native.String.{String}
use Rattle.riscv.specs.Name.{bytes}
use Rattle.riscv.specs.declared.Format.{Format}
use Rattle.riscv.specs.declared.Format.TheVariants.{R, I, S, B, U, J, System}
use Rattle.riscv.specs.declared.Class.{Class}
use Rattle.riscv.specs.declared.Class.TheVariants.{Plain, Access, Branch}
use Rattle.riscv.specs.declared.Kind.{Kind}
use Rattle.riscv.specs.declared.Kind.TheVariants.{Lui, Auipc, Lb, Lh, Lw, Ld, Lbu, Lhu, Sb, Sh, Sw, Sd, Addi, Sltiu, Xori, Ori, Andi, Slli, Srli, Srai, Addiw, Slliw, Srliw, Sraiw, Add, Sub, Sll, Sltu, Srl, Sra, Or, And, Mul, Div, Divu, Remu, Addw, Divw, Subw, Sllw, Mulw, Beq, Bne, Blt, Bge, Bltu, Bgeu, Jal, Jalr, Ecall}

-- each at its number
abbrev pub kinds : List Kind
kinds =
    Lui ∷ Auipc ∷ Lb ∷ Lh ∷ Lw ∷ Ld ∷ Lbu ∷ Lhu ∷ Sb ∷ Sh ∷ Sw ∷ Sd ∷ Addi ∷ Sltiu ∷ Xori ∷ Ori ∷ Andi ∷ Slli ∷ Srli ∷
    Srai ∷ Addiw ∷ Slliw ∷ Srliw ∷ Sraiw ∷ Add ∷ Sub ∷ Sll ∷ Sltu ∷ Srl ∷ Sra ∷ Or ∷ And ∷ Mul ∷ Div ∷ Divu ∷ Remu ∷
    Addw ∷ Divw ∷ Subw ∷ Sllw ∷ Mulw ∷ Beq ∷ Bne ∷ Blt ∷ Bge ∷ Bltu ∷ Bgeu ∷ Jal ∷ Jalr ∷ Ecall ∷ []

abbrev pub kind_count : ℕ
kind_count = length kinds

-- what is no other kind is Ecall
abbrev pub kind_at : ℕ → Kind
kind_at n = get_or kinds n Ecall

-- What is said of a kind: its number, its name as the Rust spells it, its format (RISC-V Unprivileged ISA manual (20191213), section 2.2 and
-- chapter 24, "RV32/64G Instruction Set Listings"), its class, and how many lines it appends ("Lines appended" of document 01: "Address"
-- aside, with rd and imm not 0).
pub record Row : Type 0 where
  pub number : ℕ
  pub name : String
  pub format : Format
  pub class : Class
  pub lines : ℕ

abbrev is : ℕ → String → Format → Class → ℕ → Row
is number name format class lines = record { number = number; name = name; format = format; class = class; lines = lines }

-- Loads and stores are Access; Addi, Jal, Jalr and Ecall are each a class of their own.
-- ECALL is encoded as an I-format instruction, all of whose fields are fixed: none of the record's is used.
abbrev pub row_of : Kind → Row
row_of Lui = is 0 "Lui" U Plain 2
row_of Auipc = is 1 "Auipc" U Plain 2
row_of Lb = is 2 "Lb" I Access 17
row_of Lh = is 3 "Lh" I Access 17
row_of Lw = is 4 "Lw" I Access 17
row_of Ld = is 5 "Ld" I Access 10
row_of Lbu = is 6 "Lbu" I Access 13
row_of Lhu = is 7 "Lhu" I Access 13
row_of Sb = is 8 "Sb" S Access 27
row_of Sh = is 9 "Sh" S Access 27
row_of Sw = is 10 "Sw" S Access 27
row_of Sd = is 11 "Sd" S Access 5
row_of Addi = is 12 "Addi" I Class.Addi 12
row_of Sltiu = is 13 "Sltiu" I Plain 4
row_of Xori = is 14 "Xori" I Plain 8
row_of Ori = is 15 "Ori" I Plain 6
row_of Andi = is 16 "Andi" I Plain 3
row_of Slli = is 17 "Slli" I Plain 3
row_of Srli = is 18 "Srli" I Plain 3
row_of Srai = is 19 "Srai" I Plain 7
row_of Addiw = is 20 "Addiw" I Plain 10
row_of Slliw = is 21 "Slliw" I Plain 9
row_of Srliw = is 22 "Srliw" I Plain 5
row_of Sraiw = is 23 "Sraiw" I Plain 9
row_of Add = is 24 "Add" R Plain 11
row_of Sub = is 25 "Sub" R Plain 11
row_of Sll = is 26 "Sll" R Plain 4
row_of Sltu = is 27 "Sltu" R Plain 3
row_of Srl = is 28 "Srl" R Plain 4
row_of Sra = is 29 "Sra" R Plain 8
row_of Or = is 30 "Or" R Plain 5
row_of And = is 31 "And" R Plain 2
row_of Mul = is 32 "Mul" R Plain 16
row_of Div = is 33 "Div" R Plain 3
row_of Divu = is 34 "Divu" R Plain 3
row_of Remu = is 35 "Remu" R Plain 3
row_of Addw = is 36 "Addw" R Plain 18
row_of Divw = is 37 "Divw" R Plain 15
row_of Subw = is 38 "Subw" R Plain 18
row_of Sllw = is 39 "Sllw" R Plain 11
row_of Mulw = is 40 "Mulw" R Plain 35
row_of Beq = is 41 "Beq" B Branch 2
row_of Bne = is 42 "Bne" B Branch 3
row_of Blt = is 43 "Blt" B Branch 5
row_of Bge = is 44 "Bge" B Branch 6
row_of Bltu = is 45 "Bltu" B Branch 2
row_of Bgeu = is 46 "Bgeu" B Branch 3
row_of Jal = is 47 "Jal" J Class.Jal 2
row_of Jalr = is 48 "Jalr" I Class.Jalr 2
row_of Ecall = is 49 "Ecall" System Class.Ecall 1

abbrev pub kind_number : Kind → ℕ
kind_number k = (row_of k).number

abbrev pub kind_name : Kind → List ℕ
kind_name k = bytes (row_of k).name

-- the names, each at its kind's number
unfoldable pub kind_names : List (List ℕ)
kind_names = map kind_name kinds

abbrev pub one_of : Kind → List Kind → Bool
one_of k [] = false
one_of k (j ∷ js) = eqb (kind_number k) (kind_number j) || one_of k js
