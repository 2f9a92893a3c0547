-- The tests come in the definition's order, and each answers as its own definition does. Assumes nothing.
use Rattle.std.proofs.Common.{◌≡◌, [], ◌∷◌, Some, None, slice_get, sym, ◌∙◌, lt-ltb, le-ltb}
use Rattle.riscv.specs.declared.Instruction.{Instruction}
use Rattle.riscv.specs.declared.Kind.{Kind}
use Rattle.riscv.specs.Kind.{kinds}
use Rattle.riscv.specs.Format.{format, registers_out, immediate_out}
use Rattle.riscv.specs.Refusal.{amount_out, zero_srliw, zero_rd, indirect_offset, first, refusal}
use Rattle.riscv.proofs.Numbered.{found, found_within, not_found}
use Rattle.riscv_rows.proofs.check.Goals as goal

-- of a record that has a kind, the other tests are left
known : (i : Instruction) (k : Kind) → slice_get kinds i.kind ≡ Some k
    → refusal i ≡ first
    ((registers_out (format k) i.rd i.rs1 i.rs2, 2)
    ∷ (immediate_out (format k) i.imm, 2)
    ∷ (amount_out k i.imm, 3)
    ∷ (zero_srliw k i.imm, 4)
    ∷ (zero_rd k i.rd, 5)
    ∷ (indirect_offset k i.rs1 i.imm, 6)
    ∷ [])
unfolding refusal
known i k e = rw (lt-ltb _ _ (found_within i.kind k e), found i.kind k e)

unknown : (i : Instruction) → slice_get kinds i.kind ≡ None → 1 ≡ refusal i
unfolding refusal
unknown i e = rw (le-ltb _ _ (not_found i.kind e))

pub returns-in_default : goal.returns-in_default
returns-in_default c = unknown c.args.i (sym c.numbered.ensures ∙ c.in_default.is)

pub returns-then-registers_out : goal.returns-then-registers_out
returns-then-registers_out c =
    let registers = rw c.row_of-row.ensures at c.registers_out.ensures in
    rw (known c.args.i c.in-Some.kind (sym c.numbered.ensures ∙ c.in-Some.is), ← registers, c.if-registers_out.true)

pub returns-then-immediate_out : goal.returns-then-immediate_out
returns-then-immediate_out c =
    let registers = rw c.row_of-row.ensures at c.registers_out.ensures in
    let immediate = rw c.row_of-row.ensures at c.immediate_out.ensures in
    rw (known c.args.i c.in-Some.kind (sym c.numbered.ensures ∙ c.in-Some.is), ← registers, c.if-registers_out.false, ← immediate, c.if-immediate_out.true)

pub returns-then-amount_out : goal.returns-then-amount_out
returns-then-amount_out c =
    let registers = rw c.row_of-row.ensures at c.registers_out.ensures in
    let immediate = rw c.row_of-row.ensures at c.immediate_out.ensures in
    rw (known c.args.i c.in-Some.kind (sym c.numbered.ensures ∙ c.in-Some.is), ← registers, c.if-registers_out.false, ← immediate, c.if-immediate_out.false, ← c.amount_out.ensures, c.if-amount_out.true)

pub returns-then-zero_srliw : goal.returns-then-zero_srliw
returns-then-zero_srliw c =
    let registers = rw c.row_of-row.ensures at c.registers_out.ensures in
    let immediate = rw c.row_of-row.ensures at c.immediate_out.ensures in
    rw (known c.args.i c.in-Some.kind (sym c.numbered.ensures ∙ c.in-Some.is), ← registers, c.if-registers_out.false, ← immediate, c.if-immediate_out.false, ← c.amount_out.ensures, c.if-amount_out.false, ← c.zero_srliw.ensures, c.if-zero_srliw.true)

pub returns-then-zero_rd : goal.returns-then-zero_rd
returns-then-zero_rd c =
    let registers = rw c.row_of-row.ensures at c.registers_out.ensures in
    let immediate = rw c.row_of-row.ensures at c.immediate_out.ensures in
    let rd = rw c.row_of-row.ensures at c.zero_rd.ensures in
    rw (known c.args.i c.in-Some.kind (sym c.numbered.ensures ∙ c.in-Some.is), ← registers, c.if-registers_out.false, ← immediate, c.if-immediate_out.false, ← c.amount_out.ensures, c.if-amount_out.false, ← c.zero_srliw.ensures, c.if-zero_srliw.false, ← rd, c.if-zero_rd.true)

pub returns-then-indirect_offset : goal.returns-then-indirect_offset
returns-then-indirect_offset c =
    let registers = rw c.row_of-row.ensures at c.registers_out.ensures in
    let immediate = rw c.row_of-row.ensures at c.immediate_out.ensures in
    let rd = rw c.row_of-row.ensures at c.zero_rd.ensures in
    rw (known c.args.i c.in-Some.kind (sym c.numbered.ensures ∙ c.in-Some.is), ← registers, c.if-registers_out.false, ← immediate, c.if-immediate_out.false, ← c.amount_out.ensures, c.if-amount_out.false, ← c.zero_srliw.ensures, c.if-zero_srliw.false, ← rd, c.if-zero_rd.false, ← c.indirect_offset.ensures, c.if-indirect_offset.true)

pub returns : goal.returns
returns c =
    let registers = rw c.row_of-row.ensures at c.registers_out.ensures in
    let immediate = rw c.row_of-row.ensures at c.immediate_out.ensures in
    let rd = rw c.row_of-row.ensures at c.zero_rd.ensures in
    rw (known c.args.i c.in-Some.kind (sym c.numbered.ensures ∙ c.in-Some.is), ← registers, c.if-registers_out.false, ← immediate, c.if-immediate_out.false, ← c.amount_out.ensures, c.if-amount_out.false, ← c.zero_srliw.ensures, c.if-zero_srliw.false, ← rd, c.if-zero_rd.false, ← c.indirect_offset.ensures, c.if-indirect_offset.false)
