-- What each kind appends: the first `match` of unicorn's `translate_to_model`, and Jalr's bad line.
use Rattle.std.specs.Prelude.{ℕ, ◌-◌, ◌^◌, Bool, true, false}
use Rattle.btor2.specs.declared.Name.{Name}
use Rattle.btor2.specs.declared.NodeType.TheVariants.{Word, Memory}
use Rattle.btor2.specs.Op.{add, sub, udiv, sdiv, sll, srl, ult}
use Rattle.riscv.specs.declared.Kind.{Kind}
use Rattle.riscv.specs.declared.Kind.TheVariants.{Lui, Auipc, Lb, Lh, Lw, Ld, Lbu, Lhu, Sb, Sh, Sw, Sd, Addi, Sltiu, Xori, Ori, Andi, Slli, Srli, Srai, Addiw, Slliw, Srliw, Sraiw, Add, Sub, Sll, Sltu, Srl, Sra, Or, And, Mul, Div, Divu, Remu, Addw, Divw, Subw, Sllw, Mulw, Beq, Bne, Blt, Bge, Bltu, Bgeu, Jal, Jalr, Ecall}
use Rattle.riscv.specs.Class.{class, has_bad}
use Rattle.riscv.specs.declared.Zeros.{Zeros}
use Rattle.builder.specs.Prog.{Prog, done, ◌>>=◌}
use Rattle.builder.specs.OneLine.{new_bin, new_ite, new_eq, new_and_word, new_bad}
use Rattle.builder_ops.specs.Composed.{new_neq, new_ugte, new_slt, new_sgte, new_or, new_xor, new_sra}
use Rattle.models.specs.Places.{Operands, Flows, Outcome, Modeled, nothing, register, memory, branch, gives}
use Rattle.models.specs.Counters.{model_load, model_store, model_ld, model_sd}
use Rattle.models.specs.Kinds.{constant, link, with_constant, model_addi, model_addiw, model_sltiu, model_slliw, shifted_back, with_register, model_sltu, shifted, model_sllw, summed, summed_word, model_mul, model_mulw, divided, model_divw, model_remu, model_branch, model_ecall}

module _ {A : Type 0} where
  -- imm is its constant
  abbrev pub model : Operands A → Flows A → ℕ → Kind → Zeros → Prog A (Modeled A)
  model e f imm Lui z = constant f imm
  model e f imm Auipc z = constant f imm
  model e f imm Lb z = model_load e f z.imm imm 56 true
  model e f imm Lh z = model_load e f z.imm imm 48 true
  model e f imm Lw z = model_load e f z.imm imm 32 true
  model e f imm Ld z = model_ld e f z.imm imm
  model e f imm Lbu z = model_load e f z.imm imm 56 false
  model e f imm Lhu z = model_load e f z.imm imm 48 false
  model e f imm Sb z = model_store e f z.imm imm (2 ^ 8 - 1)
  model e f imm Sh z = model_store e f z.imm imm (2 ^ 16 - 1)
  model e f imm Sw z = model_store e f z.imm imm (2 ^ 32 - 1)
  model e f imm Sd z = model_sd e f z.imm imm
  model e f imm Addi z = model_addi z e f imm
  model e f imm Sltiu z = model_sltiu e f imm
  model e f imm Xori z = with_constant new_xor e f imm
  model e f imm Ori z = with_constant new_or e f imm
  model e f imm Andi z = with_constant new_and_word e f imm
  model e f imm Slli z = with_constant (new_bin sll) e f imm
  model e f imm Srli z = with_constant (new_bin srl) e f imm
  model e f imm Srai z = with_constant new_sra e f imm
  model e f imm Addiw z = model_addiw e f imm
  model e f imm Slliw z = model_slliw e f imm
  model e f imm Srliw z = shifted_back (new_bin srl) e f imm
  model e f imm Sraiw z = shifted_back new_sra e f imm
  model e f imm Add z = summed add e f
  model e f imm Sub z = summed sub e f
  model e f imm Sll z = shifted (new_bin sll) e f
  model e f imm Sltu z = model_sltu e f
  model e f imm Srl z = shifted (new_bin srl) e f
  model e f imm Sra z = shifted new_sra e f
  model e f imm Or z = with_register new_or e f
  model e f imm And z = with_register new_and_word e f
  model e f imm Mul z = model_mul e f
  model e f imm Div z = divided sdiv e f
  model e f imm Divu z = divided udiv e f
  model e f imm Remu z = model_remu e f
  model e f imm Addw z = summed_word add e f
  model e f imm Divw z = model_divw e f
  model e f imm Subw z = summed_word sub e f
  model e f imm Sllw z = model_sllw e f
  model e f imm Mulw z = model_mulw e f
  model e f imm Beq z = model_branch new_eq e f
  model e f imm Bne z = model_branch new_neq e f
  model e f imm Blt z = model_branch new_slt e f
  model e f imm Bge z = model_branch new_sgte e f
  model e f imm Bltu z = model_branch (new_bin ult) e f
  model e f imm Bgeu z = model_branch new_ugte e f
  model e f imm Jal z = link z.rd f imm
  model e f imm Jalr z = link z.rd f imm
  model e f imm Ecall z = model_ecall e f

  -- the flow's line, ite(flag, what the model gives, the old flow); what comes out is where the flow is now
  unfoldable pub reg_flow_ite : A → A → Flows A → A → Prog A (Modeled A)
  reg_flow_ite flag old f x = do
    n ← new_ite Word flag x old
    done (gives f (register n))

  unfoldable pub memory_flow_ite : A → A → Flows A → A → Prog A (Modeled A)
  memory_flow_ite flag old f x = do
    n ← new_ite Memory flag x old
    done (gives f (memory n))

  abbrev pub settle : A → A → A → Flows A → Outcome A → Prog A (Modeled A)
  settle flag register-flow memory-flow f nothing = done (gives f nothing)
  settle flag register-flow memory-flow f (register x) = reg_flow_ite flag register-flow f x
  settle flag register-flow memory-flow f (memory x) = memory_flow_ite flag memory-flow f x
  settle flag register-flow memory-flow f (branch x y) = done (gives f (branch x y))

  -- Jalr under x0: a bad line after the others
  unfoldable pub unimplemented : Bool → A → Name → Modeled A → Prog A (Modeled A)
  unimplemented false flag name m = done m
  unimplemented true flag name m = do
    n ← new_bad flag name
    done m

  -- all that an instruction appends; the old flows are those of rd and of memory
  unfoldable pub translate : Operands A → Flows A → A → A → ℕ → Name → Kind → Zeros → Prog A (Modeled A)
  translate e f register-flow memory-flow imm name k z = do
    m ← model e f imm k z
    n ← settle e.flag register-flow memory-flow m.flows m.outcome
    unimplemented (has_bad (class k) z) e.flag name n
