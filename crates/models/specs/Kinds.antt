-- The models of the other kinds, each line by line as unicorn's function of its name; kinds that differ in an operator alone share one.
use Rattle.std.specs.Prelude.{ℕ, Bool, true, false, cond}
use Rattle.btor2.specs.declared.NodeType.TheVariants.{Bit, Word}
use Rattle.btor2.specs.Op.{Bin, add, mul, sdiv, urem, sll, ult}
use Rattle.riscv.specs.declared.Zeros.{Zeros}
use Rattle.builder.specs.Prog.{Prog, done, ◌>>=◌}
use Rattle.builder.specs.OneLine.{new_const, new_bin, new_ext, new_ite, new_and_word, new_not_bit}
use Rattle.builder_ops.specs.Composed.{new_sra, new_sext_by, new_sext32, check_addition_overflow, check_multiplication_overflow}
use Rattle.models.specs.Places.{Operands, Flows, Modeled, nothing, register, branch, with_division, with_remainder, with_addition, with_multiplication, with_ecall, gives}

module _ {A : Type 0} where
  -- Lui, Auipc, and the link of Jal and Jalr: a constant
  unfoldable pub constant : Flows A → ℕ → Prog A (Modeled A)
  constant f imm = do
    c ← new_const imm
    done (gives f (register c))

  -- Jal and Jalr: rd is x0 gives nothing
  unfoldable pub link : Bool → Flows A → ℕ → Prog A (Modeled A)
  link true f address = done (gives f nothing)
  link false f address = constant f address

  -- Xori, Ori, Andi, Slli, Srli, Srai: rs1 and a constant
  unfoldable pub with_constant : (A → A → Prog A A) → Operands A → Flows A → ℕ → Prog A (Modeled A)
  with_constant op e f imm = do
    c ← new_const imm
    x ← op e.rs1 c
    done (gives f (register x))

  -- what Addi gives: where imm is 0, rs1's node itself; where rs1 is x0, a second constant; else the sum
  unfoldable pub addi_result : Zeros → ℕ → A → A → Prog A A
  addi_result z imm rs1 c = cond z.imm (done rs1) (cond z.rs1 (new_const imm) (new_bin add rs1 c))

  unfoldable pub sum_with_constant : Zeros → Operands A → Flows A → ℕ → Prog A (Modeled A)
  sum_with_constant z e f imm = do
    c ← new_const imm
    x ← addi_result z imm e.rs1 c
    overflow ← check_addition_overflow e.flag f.addition e.rs1 c x
    done (gives (with_addition f overflow) (register x))

  -- Addi: rd is x0 gives nothing
  unfoldable pub model_addi : Zeros → Operands A → Flows A → ℕ → Prog A (Modeled A)
  model_addi z e f imm = cond z.rd (done (gives f nothing)) (sum_with_constant z e f imm)

  unfoldable pub model_addiw : Operands A → Flows A → ℕ → Prog A (Modeled A)
  model_addiw e f imm = do
    c ← new_const imm
    x ← new_bin add e.rs1 c
    y ← new_sext32 x
    done (gives f (register y))

  unfoldable pub model_sltiu : Operands A → Flows A → ℕ → Prog A (Modeled A)
  model_sltiu e f imm = do
    c ← new_const imm
    x ← new_bin ult e.rs1 c
    y ← new_ext Bit x
    done (gives f (register y))

  -- Slliw: (rs1 << (n + 32)) >>s 32
  unfoldable pub model_slliw : Operands A → Flows A → ℕ → Prog A (Modeled A)
  model_slliw e f amount = do
    c ← new_const amount
    thirtytwo ← new_const 32
    x ← new_bin sll e.rs1 c
    y ← new_sra x thirtytwo
    done (gives f (register y))

  -- Srliw, Sraiw: (rs1 << 32) >> (n + 32)
  unfoldable pub shifted_back : (A → A → Prog A A) → Operands A → Flows A → ℕ → Prog A (Modeled A)
  shifted_back op e f amount = do
    c ← new_const amount
    thirtytwo ← new_const 32
    x ← new_bin sll e.rs1 thirtytwo
    y ← op x c
    done (gives f (register y))

  -- Or, And
  unfoldable pub with_register : (A → A → Prog A A) → Operands A → Flows A → Prog A (Modeled A)
  with_register op e f = do
    x ← op e.rs1 e.rs2
    done (gives f (register x))

  unfoldable pub model_sltu : Operands A → Flows A → Prog A (Modeled A)
  model_sltu e f = do
    x ← new_bin ult e.rs1 e.rs2
    y ← new_ext Bit x
    done (gives f (register y))

  -- Sll, Srl, Sra: by the low 6 bits of rs2
  unfoldable pub shifted : (A → A → Prog A A) → Operands A → Flows A → Prog A (Modeled A)
  shifted op e f = do
    mask ← new_const 63
    amount ← new_and_word e.rs2 mask
    x ← op e.rs1 amount
    done (gives f (register x))

  unfoldable pub model_sllw : Operands A → Flows A → Prog A (Modeled A)
  model_sllw e f = do
    thirtytwo ← new_const 32
    mask ← new_const 31
    amount ← new_and_word e.rs2 mask
    sum ← new_bin add amount thirtytwo
    x ← new_bin sll e.rs1 sum
    y ← new_sra x thirtytwo
    done (gives f (register y))

  -- Add, Sub: both use the addition's test
  unfoldable pub summed : Bin → Operands A → Flows A → Prog A (Modeled A)
  summed o e f = do
    x ← new_bin o e.rs1 e.rs2
    overflow ← check_addition_overflow e.flag f.addition e.rs1 e.rs2 x
    done (gives (with_addition f overflow) (register x))

  -- Addw, Subw
  unfoldable pub summed_word : Bin → Operands A → Flows A → Prog A (Modeled A)
  summed_word o e f = do
    x ← new_bin o e.rs1 e.rs2
    overflow ← check_addition_overflow e.flag f.addition e.rs1 e.rs2 x
    y ← new_sext32 x
    done (gives (with_addition f overflow) (register y))

  unfoldable pub model_mul : Operands A → Flows A → Prog A (Modeled A)
  model_mul e f = do
    x ← new_bin mul e.rs1 e.rs2
    overflow ← check_multiplication_overflow e.flag e.zero f.multiplication e.rs1 e.rs2 x
    done (gives (with_multiplication f overflow) (register x))

  unfoldable pub model_mulw : Operands A → Flows A → Prog A (Modeled A)
  model_mulw e f = do
    thirtytwo ← new_const 32
    left ← new_sext_by e.rs1 thirtytwo
    right ← new_sext_by e.rs2 thirtytwo
    product ← new_bin mul left right
    x ← new_sext_by product thirtytwo
    overflow ← check_multiplication_overflow e.flag e.zero f.multiplication e.rs1 e.rs2 x
    done (gives (with_multiplication f overflow) (register x))

  -- Div, Divu: the division flow takes the divisor
  unfoldable pub divided : Bin → Operands A → Flows A → Prog A (Modeled A)
  divided o e f = do
    division ← new_ite Word e.flag e.rs2 f.division
    x ← new_bin o e.rs1 e.rs2
    done (gives (with_division f division) (register x))

  unfoldable pub model_divw : Operands A → Flows A → Prog A (Modeled A)
  model_divw e f = do
    thirtytwo ← new_const 32
    left ← new_sext_by e.rs1 thirtytwo
    right ← new_sext_by e.rs2 thirtytwo
    x ← new_bin sdiv left right
    done (gives f (register x))

  unfoldable pub model_remu : Operands A → Flows A → Prog A (Modeled A)
  model_remu e f = do
    remainder ← new_ite Word e.flag e.rs2 f.remainder
    x ← new_bin urem e.rs1 e.rs2
    done (gives (with_remainder f remainder) (register x))

  -- Beq, Bne, Blt, Bge, Bltu, Bgeu: the condition, and its negation
  unfoldable pub model_branch : (A → A → Prog A A) → Operands A → Flows A → Prog A (Modeled A)
  model_branch op e f = do
    taken ← op e.rs1 e.rs2
    other ← new_not_bit taken
    done (gives f (branch taken other))

  unfoldable pub model_ecall : Operands A → Flows A → Prog A (Modeled A)
  model_ecall e f = do
    x ← new_ite Bit e.flag e.true_bit f.ecall
    done (gives (with_ecall f x) nothing)
