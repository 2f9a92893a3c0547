-- What only the contracts of private functions cite: a kind's lines are those of its shape, under an operator or a number of its own.
use Rattle.std.specs.Prelude.{ℕ, ◌≡◌}
use Rattle.riscv.specs.declared.Zeros.{Zeros}
use Rattle.riscv.specs.declared.Kind.{Kind}
use Rattle.builder.specs.Prog.{Prog}
use Rattle.btor2_list.specs.Operator.{bin_from}
use Rattle.builder_ops.specs.Operator.{operator_of}
use Rattle.models.specs.Places.{Operands, Flows, Modeled}
use Rattle.models.specs.Counters.{model_load, model_store, model_ld, model_sd}
use Rattle.models.specs.Kinds.{constant, link, with_constant, model_addi, model_addiw, model_sltiu, model_slliw, shifted_back, with_register, model_sltu, shifted, model_sllw, summed, summed_word, model_mul, model_mulw, divided, model_divw, model_remu, model_branch, model_ecall}
use Rattle.models.specs.Model.{model}
use Rattle.translate.specs.declared.Shape.{Shape}
use Rattle.translate.specs.declared.Shape.TheVariants.{Constant, Link, Load, Ld, Store, Sd, Addi, Addiw, Sltiu, Slliw, WithConstant, ShiftedBack, Summed, SummedWord, Shifted, Sltu, Sllw, WithRegister, Mul, Mulw, Divided, Divw, Remu, Branch, Ecall}

abbrev pub shaped : Shape → Operands ℕ → Flows ℕ → ℕ → Zeros → Prog ℕ (Modeled ℕ)
shaped Constant e f imm z = constant f imm
shaped Link e f imm z = link z.rd f imm
shaped (Load spare signed) e f imm z = model_load e f z.imm imm spare signed
shaped Ld e f imm z = model_ld e f z.imm imm
shaped (Store ones) e f imm z = model_store e f z.imm imm ones
shaped Sd e f imm z = model_sd e f z.imm imm
shaped Addi e f imm z = model_addi z e f imm
shaped Addiw e f imm z = model_addiw e f imm
shaped Sltiu e f imm z = model_sltiu e f imm
shaped Slliw e f imm z = model_slliw e f imm
shaped (WithConstant o) e f imm z = with_constant (operator_of o) e f imm
shaped (ShiftedBack o) e f imm z = shifted_back (operator_of o) e f imm
shaped (Summed o) e f imm z = summed (bin_from o) e f
shaped (SummedWord o) e f imm z = summed_word (bin_from o) e f
shaped (Shifted o) e f imm z = shifted (operator_of o) e f
shaped Sltu e f imm z = model_sltu e f
shaped Sllw e f imm z = model_sllw e f
shaped (WithRegister o) e f imm z = with_register (operator_of o) e f
shaped Mul e f imm z = model_mul e f
shaped Mulw e f imm z = model_mulw e f
shaped (Divided o) e f imm z = divided (bin_from o) e f
shaped Divw e f imm z = model_divw e f
shaped Remu e f imm z = model_remu e f
shaped (Branch o) e f imm z = model_branch (operator_of o) e f
shaped Ecall e f imm z = model_ecall e f

-- the kind's lines are those of the shape
abbrev pub Has : Kind → Shape → Type 0
Has k shape = (e : Operands ℕ) (f : Flows ℕ) (imm : ℕ) (z : Zeros) → model e f imm k z ≡ shaped shape e f imm z
