-- What the kinds of a class ask of a call besides their lines' text: how many lines they append, whether they need a flag. Document 01,
-- "Lines appended" and refusals 5 and 7.
use Rattle.std.specs.Prelude.{ℕ, ◌+◌, Bool, true, false, cond, not, ◌||◌, ◌&&◌}
use Rattle.riscv.specs.declared.Kind.{Kind}
use Rattle.riscv.specs.Kind.{row_of}
use Rattle.riscv.specs.declared.Zeros.{Zeros}
use Rattle.riscv.specs.declared.Class.{Class}
use Rattle.riscv.specs.declared.Class.TheVariants.{Plain, Access, Addi, Branch, Jal, Jalr, Ecall}

abbrev pub class : Kind → Class
class k = (row_of k).class

abbrev pub plain_count : Kind → ℕ
plain_count k = (row_of k).lines

-- the lines that a kind of a class appends
abbrev pub count_of : Class → ℕ → Zeros → ℕ
count_of Plain n z = n
-- "`Address` adds 2 where imm is not 0"
count_of Access n z = n + cond z.imm 0 2
-- "Addi 12, or 11 with imm 0, or 0 with rd x0"
count_of Addi n z = cond z.rd 0 (cond z.imm 11 n)
count_of Branch n z = n
-- "Jal and Jalr 2, or 0 with rd x0; Jalr with rs1 x0 one more (`bad`)"
count_of Jal n z = cond z.rd 0 n
count_of Jalr n z = cond z.rd 0 n + cond z.rs1 1 0
count_of Ecall n z = n

abbrev pub line_count : Kind → Zeros → ℕ
line_count k z = count_of (class k) (plain_count k) z

-- "Never over 35"
abbrev pub most_appended : ℕ
most_appended = 35

-- "Branches, Addi and Jal with rd x0, and Jalr with rd x0 and rs1 not x0 need none"
abbrev pub class_needs_flag : Class → Zeros → Bool
class_needs_flag Plain z = true
class_needs_flag Access z = true
class_needs_flag Addi z = not z.rd
class_needs_flag Branch z = false
class_needs_flag Jal z = not z.rd
class_needs_flag Jalr z = not z.rd || z.rs1
class_needs_flag Ecall z = true

abbrev pub needs_flag : Kind → Zeros → Bool
needs_flag k z = class_needs_flag (class k) z

abbrev pub is_jalr : Class → Bool
is_jalr Plain = false
is_jalr Access = false
is_jalr Addi = false
is_jalr Branch = false
is_jalr Jal = false
is_jalr Jalr = true
is_jalr Ecall = false

-- "other than Addi, Jal, Jalr" (refusal 5)
abbrev pub takes_zero_rd : Class → Bool
takes_zero_rd Plain = false
takes_zero_rd Access = false
takes_zero_rd Addi = true
takes_zero_rd Branch = false
takes_zero_rd Jal = true
takes_zero_rd Jalr = true
takes_zero_rd Ecall = false

-- "Jalr: a dispatch under rs1 (with x0 a `bad` line instead)"
abbrev pub has_bad : Class → Zeros → Bool
has_bad c z = is_jalr c && z.rs1

abbrev pub has_dispatch : Class → Zeros → Bool
has_dispatch c z = is_jalr c && not z.rs1
