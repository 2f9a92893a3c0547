-- Each kind but Mul and Mulw: the line that its model gives for rd or memory has the manual's value, where a call with a true flag is
-- admitted. Assumes nothing.
use Prim.Native.Nat.{ℕ, ◌+◌, ◌-◌, ◌*◌, ◌%◌, ◌^◌, ◌≤◌, ◌<◌}
use native.Mathlib.Nat.{add_comm}
use native.Mathlib.Omega.{arith}
use mathlib.Core.Path.{◌≡◌, refl, ◌∙◌, ap}
use mathlib.Core.Bool.{Bool, true, false, not}
use lib.Dec.{T, eqb}
use borrow.Author.Tests.{ltb-false}
use Rattle.bitvec.proofs.Truth.{neither}
use Rattle.bitvec.specs.Smtlib.{bvand}
use Rattle.bitvec.specs.Smtlib as Smt
use Rattle.bitvec.specs.TwosComplement.{sext}
use Rattle.bitvec.proofs.Base.{sub_is}
use Rattle.bitvec.proofs.Composed.{or_lines, xor_lines, sra_lines, load_lines, load_signed_lines, mask, store_lines}
use Rattle.bitvec.proofs.Logic.{or_lines_lem, xor_lines_lem}
use Rattle.bitvec.proofs.Shift.{sra_lines_lem}
use Rattle.bitvec.proofs.Word as Word
use Rattle.btor2.specs.declared.Name.{Name}
use Rattle.btor2.specs.Value.{Value, number, array, store, Env}
use Rattle.riscv.specs.declared.Kind.{Kind}
use Rattle.riscv.specs.declared.Kind.TheVariants.{Lui, Auipc, Lb, Lh, Lw, Ld, Lbu, Lhu, Sb, Sh, Sw, Sd, Addi, Sltiu, Xori, Ori, Andi, Slli, Srli, Srai, Addiw, Slliw, Srliw, Sraiw, Add, Sub, Sll, Sltu, Srl, Sra, Or, And, Mul, Div, Divu, Remu, Addw, Divw, Subw, Sllw, Mulw, Beq, Bne, Blt, Bge, Bltu, Bgeu, Jal, Jalr, Ecall}
use Rattle.riscv.specs.declared.Zeros.{Zeros}
use Rattle.riscv.proofs.EachKind.{zeros}
use Rattle.riscv.specs.Format.{format, immediate_out}
use Rattle.riscv.specs.Refusal.{amount_out, zero_srliw}
use Rattle.riscv.specs.Manual.{manual, load_at, store_at}
use Rattle.riscv.specs.Memory.{bytes_of, cells_with}
use Rattle.riscv.specs.Constant.{constant_of}
use Rattle.lowering_laws.proofs.Template.{Role, flag, rs1, rs2, memory_node, register_flow, memory_flow, template}
use Rattle.meaning.specs.Access.{InOneWord}
use Rattle.meaning.specs.Condition.{Admitted, excluded}
use Rattle.meaning.proofs.Agrees.{Flowed, outcome, Agrees}
use Rattle.meaning.proofs.Words as W
use Rattle.meaning.proofs.Division as Division

module _ (env : Env) (n : ℕ) (of_role : Role → Value) (imm pc : ℕ) (name : Name) where
  abbrev x : ℕ
  x = (of_role rs1).num

  abbrev y : ℕ
  y = (of_role rs2).num

  abbrev cells : ℕ → ℕ
  cells = (of_role memory_node).mem

  -- what an accepted call knows
  pub record Known (k : Kind) (z : Zeros) : Type 0 where
    pub word : imm < 2 ^ 64
    pub range : immediate_out (format k) imm ≡ false
    pub amount : amount_out k imm ≡ false
    pub nonzero : zero_srliw k imm ≡ false
    pub x_fits : (of_role rs1).num < 2 ^ 64
    pub y_fits : (of_role rs2).num < 2 ^ 64
    pub cells_fit : (a : ℕ) → (of_role memory_node).mem a < 2 ^ 64
    pub zero_imm : eqb imm 0 ≡ z.imm
    pub zero_rs1 : T z.rs1 → (of_role rs1).num ≡ 0
    pub admitted : (of_role flag).num ≡ 1 → Admitted k (of_role rs1).num (of_role rs2).num imm

  -- a flow's line with a word, and with a memory
  word : {v w : ℕ} → ((of_role flag).num ≡ 1 → v ≡ w)
      → Flowed (of_role flag) (of_role register_flow) (Smt.ite (of_role flag).num (number v) (of_role register_flow)) (λ u. u.num ≡ w)
  word {v} h = record { result = number v; is = refl; right = h }

  memory : {f g : ℕ → ℕ} → ((of_role flag).num ≡ 1 → (a : ℕ) → a < 2 ^ 64 → f a ≡ g a)
      → Flowed (of_role flag) (of_role memory_flow) (Smt.ite (of_role flag).num (array f) (of_role memory_flow)) (λ u. (a : ℕ) → a < 2 ^ 64 → u.mem a ≡ g a)
  memory {f} h = record { result = array f; is = refl; right = h }

  module _ {k : Kind} {z : Zeros} (h : Known k z) where
    within : (of_role flag).num ≡ 1 → InOneWord k x imm
    within on = (h.admitted on).one_word

    abbrev address : ℕ
    address = W.address_of z.imm x imm

    abbrev effective : ℕ
    effective = (x + imm) % 2 ^ 64

    at : {X : Type 0} (f : ℕ → X) → f address ≡ f effective
    at f = ap f (W.address_is z.imm x imm h.zero_imm h.x_fits)

    loaded : (b : ℕ) → 0 < b → effective % 8 + b ≤ 8 → load_lines (cells (bvand address (2 ^ 64 - 8))) (bvand address 7) b ≡ load_at (bytes_of cells) effective b
    loaded b l i = at (λ a. load_lines (cells (bvand a (2 ^ 64 - 8))) (bvand a 7) b) ∙ W.load_zero cells effective b (omega arith) i l

    loaded_signed : (b : ℕ) → 0 < b → effective % 8 + b ≤ 8
        → load_signed_lines (cells (bvand address (2 ^ 64 - 8))) (bvand address 7) b ≡ sext (8 * b) 64 (load_at (bytes_of cells) effective b)
    loaded_signed b l i = at (λ a. load_signed_lines (cells (bvand a (2 ^ 64 - 8))) (bvand a 7) b) ∙ W.load_sign cells effective b (omega arith) i l

    loaded_whole : effective % 8 + 8 ≤ 8 → cells address ≡ load_at (bytes_of cells) effective 8
    loaded_whole i = at cells ∙ W.load_whole_cell cells effective (omega arith) i h.cells_fit

    stored : (b : ℕ) → 0 < b → effective % 8 + b ≤ 8 → (a : ℕ) → a < 2 ^ 64
        → store cells (bvand address (2 ^ 64 - 8)) (store_lines (cells (bvand address (2 ^ 64 - 8))) (bvand address 7) b y) a
        ≡ cells_with cells (store_at (bytes_of cells) effective b y) a
    stored b l i a ha =
        at (λ p. store cells (bvand p (2 ^ 64 - 8)) (store_lines (cells (bvand p (2 ^ 64 - 8))) (bvand p 7) b y) a)
        ∙ W.store_part cells effective b (omega arith) i h.cells_fit y a ha l

    stored_whole : effective % 8 + 8 ≤ 8 → (a : ℕ) → a < 2 ^ 64 → store cells address y a ≡ cells_with cells (store_at (bytes_of cells) effective 8 y) a
    stored_whole i a ha = at (λ p. store cells p y a) ∙ W.store_whole_cell cells effective (omega arith) i h.cells_fit y a h.y_fits ha

  by_fields : (k : Kind) (z d s : Bool) → T (not (excluded k)) → Known k (zeros z d s)
      → Agrees env n of_role d (manual imm pc x y (bytes_of cells) k) (outcome env n of_role (template (constant_of k imm pc) name k (zeros z d s)))
  unfolding manual outcome template constant_of sra_lines load_lines load_signed_lines store_lines mask or_lines xor_lines
  by_fields Lui z d s v h = word (λ on. W.upper_is imm (omega (arith, ltb-false 1048575 imm h.range)))
  by_fields Auipc z d s v h = word (λ on. rw (W.upper_is imm (omega (arith, ltb-false 1048575 imm h.range))) (ap (λ a. a % 2 ^ 64) (add_comm (sext 32 64 (imm * 2 ^ 12)) pc)))
  by_fields Lb true d s v h = word (λ on. loaded_signed h 1 (omega arith) (within h on))
  by_fields Lb false d s v h = word (λ on. loaded_signed h 1 (omega arith) (within h on))
  by_fields Lh true d s v h = word (λ on. loaded_signed h 2 (omega arith) (within h on))
  by_fields Lh false d s v h = word (λ on. loaded_signed h 2 (omega arith) (within h on))
  by_fields Lw true d s v h = word (λ on. loaded_signed h 4 (omega arith) (within h on))
  by_fields Lw false d s v h = word (λ on. loaded_signed h 4 (omega arith) (within h on))
  by_fields Ld true d s v h = word (λ on. loaded_whole h (within h on))
  by_fields Ld false d s v h = word (λ on. loaded_whole h (within h on))
  by_fields Lbu true d s v h = word (λ on. loaded h 1 (omega arith) (within h on))
  by_fields Lbu false d s v h = word (λ on. loaded h 1 (omega arith) (within h on))
  by_fields Lhu true d s v h = word (λ on. loaded h 2 (omega arith) (within h on))
  by_fields Lhu false d s v h = word (λ on. loaded h 2 (omega arith) (within h on))
  by_fields Sb true d s v h = memory (λ on. stored h 1 (omega arith) (within h on))
  by_fields Sb false d s v h = memory (λ on. stored h 1 (omega arith) (within h on))
  by_fields Sh true d s v h = memory (λ on. stored h 2 (omega arith) (within h on))
  by_fields Sh false d s v h = memory (λ on. stored h 2 (omega arith) (within h on))
  by_fields Sw true d s v h = memory (λ on. stored h 4 (omega arith) (within h on))
  by_fields Sw false d s v h = memory (λ on. stored h 4 (omega arith) (within h on))
  by_fields Sd true d s v h = memory (λ on. stored_whole h (within h on))
  by_fields Sd false d s v h = memory (λ on. stored_whole h (within h on))
  by_fields Addi z true s v h = tt
  by_fields Addi true false s v h = record { result = of_role rs1; is = refl; right = λ on. W.address_is true x imm h.zero_imm h.x_fits }
  by_fields Addi false false true v h = word (λ on. W.zero_plus x imm h.word (h.zero_rs1 tt))
  by_fields Addi false false false v h = word (λ on. W.address_is false x imm h.zero_imm h.x_fits)
  by_fields Sltiu z d s v h = word (λ on. Word.sltu_lines x imm)
  by_fields Xori z d s v h = word (λ on. xor_lines_lem 64 x imm h.x_fits h.word)
  by_fields Ori z d s v h = word (λ on. or_lines_lem 64 x imm h.x_fits h.word)
  by_fields Andi z d s v h = word (λ on. W.and_is x imm)
  by_fields Slli z d s v h = word (λ on. W.slli x imm (omega (arith, ltb-false 63 imm (neither _ false h.amount).0)))
  by_fields Srli z d s v h = word (λ on. W.srli x imm (omega (arith, ltb-false 63 imm (neither _ false h.amount).0)))
  by_fields Srai z d s v h = word (λ on. sra_lines_lem 64 x (imm % 64) h.x_fits (omega arith))
  by_fields Addiw z d s v h = word (λ on. W.add_word x imm)
  by_fields Slliw z d s v h = word (λ on. W.slliw x imm (omega (arith, ltb-false 31 imm (neither _ false h.amount).0)))
  by_fields Srliw z d s v h = word (λ on. W.srliw x imm (W.positive imm h.nonzero) (omega (arith, ltb-false 31 imm (neither _ false h.amount).0)))
  by_fields Sraiw z d s v h = word (λ on. W.sraiw x imm (omega (arith, ltb-false 31 (imm % 64) h.amount)))
  by_fields Add z d s v h = word (λ on. W.add_is x y)
  by_fields Sub z d s v h = word (λ on. sub_is 64 x y)
  by_fields Sll z d s v h = word (λ on. Word.sll x y)
  by_fields Sltu z d s v h = word (λ on. Word.sltu_lines x y)
  by_fields Srl z d s v h = word (λ on. Word.srl x y)
  by_fields Sra z d s v h = word (λ on. Word.sra_y x y h.x_fits)
  by_fields Or z d s v h = word (λ on. or_lines_lem 64 x y h.x_fits h.y_fits)
  by_fields And z d s v h = word (λ on. W.and_is x y)
  by_fields Mul z d s v h = absurd v
  by_fields Div z d s v h = word (λ on. Division.div x y h.x_fits h.y_fits (h.admitted on).ordinary)
  by_fields Divu z d s v h = word (λ on. W.divu x y)
  by_fields Remu z d s v h = word (λ on. W.remu x y)
  by_fields Addw z d s v h = word (λ on. W.add_word x y)
  by_fields Divw z d s v h = word (λ on. Division.divw x y (h.admitted on).ordinary)
  by_fields Subw z d s v h = word (λ on. W.sub_word x y)
  by_fields Sllw z d s v h = word (λ on. W.sllw x y)
  by_fields Mulw z d s v h = absurd v
  by_fields Beq z d s v h = tt
  by_fields Bne z d s v h = tt
  by_fields Blt z d s v h = tt
  by_fields Bge z d s v h = tt
  by_fields Bltu z d s v h = tt
  by_fields Bgeu z d s v h = tt
  by_fields Jal z true s v h = tt
  by_fields Jal z false s v h = word (λ on. refl)
  by_fields Jalr z true true v h = tt
  by_fields Jalr z true false v h = tt
  by_fields Jalr z false true v h = word (λ on. refl)
  by_fields Jalr z false false v h = word (λ on. refl)
  by_fields Ecall z d s v h = tt

  pub kind_means : (k : Kind) (z : Zeros) → T (not (excluded k)) → Known k z
      → Agrees env n of_role z.rd (manual imm pc x y (bytes_of cells) k) (outcome env n of_role (template (constant_of k imm pc) name k z))
  kind_means k z v h = by_fields k z.imm z.rd z.rs1 v h
