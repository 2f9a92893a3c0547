-- The definitions at work, by computation: the document's lines, and the edges of each rule. Assumes nothing.
use Rattle.std.specs.Prelude.{Option, Some, None}
use Prim.Native.Nat.{ℕ, ◌-◌, ◌^◌}
use Prim.Native.String.{String}
use mathlib.Core.Path.{◌≡◌, refl}
use mathlib.Core.List.{◌++◌}
use lib.ListN.{replicate}
use Rattle.listing_input.specs.Text.{all, split, on_first, number_below, decimal, onward}
use Rattle.riscv.specs.declared.Kind.TheVariants.{Ecall}
use Rattle.riscv.specs.Kind.{kind_count, kind_number, kind_names}
use Rattle.riscv.specs.Name.{bytes}
use Rattle.listing_input.specs.Kinds.{same, place_of}
use Rattle.listing_input.specs.Line.{letters, negated, immediate, instruction, parse_line}
use Rattle.listing_input.specs.declared.line.Parsed.{Parsed}

-- a line that says these numbers
abbrev Instruction : ℕ → ℕ → ℕ → ℕ → ℕ → ℕ → Option Parsed
Instruction address kind rd rs1 rs2 imm = Some (record { address = address; instruction = record { kind = kind; rd = rd; rs1 = rs1; rs2 = rs2; imm = imm } })

line : String → Option Parsed
unfolding all split on_first number_below decimal onward kind_names same place_of letters negated immediate instruction parse_line
line t = parse_line (bytes t)

lui : line "65536 Lui 5 0 0 1" ≡ Instruction 65536 0 5 0 0 1
unfolding line
lui = refl

bltu : line "65540 Bltu 0 5 6 -4" ≡ Instruction 65540 45 0 5 6 (2 ^ 64 - 4)
unfolding line
bltu = refl

largest : line "18446744073709551615 Ecall 255 255 255 2147483647" ≡ Instruction (2 ^ 64 - 1) (kind_number Ecall) 255 255 255 (2 ^ 31 - 1)
unfolding line
largest = refl

least : line "0 Lui 0 0 0 -2147483648" ≡ Instruction 0 0 0 0 0 (2 ^ 64 - 2 ^ 31)
unfolding line
least = refl

unknown : line "0 lui 0 0 0 0" ≡ Instruction 0 kind_count 0 0 0 0
unfolding line
unknown = refl

-- past a limit
address_over : line "18446744073709551616 Lui 0 0 0 0" ≡ None
unfolding line
address_over = refl

number_over : line "0 Lui 0 256 0 0" ≡ None
unfolding line
number_over = refl

imm_over : line "0 Lui 0 0 0 2147483648" ≡ None
unfolding line
imm_over = refl

imm_under : line "0 Lui 0 0 0 -2147483649" ≡ None
unfolding line
imm_under = refl

-- not as a number is written
minus_zero : line "0 Lui 0 0 0 -0" ≡ None
unfolding line
minus_zero = refl

leading_zero : line "00 Lui 0 0 0 0" ≡ None
unfolding line
leading_zero = refl

-- not six fields, or an unknown kind in a line that is malformed besides
trailing : line "0 Lui 0 0 0 0 " ≡ None
unfolding line
trailing = refl

double : line "0  Lui 0 0 0 0" ≡ None
unfolding line
double = refl

both : line "0 lui 0 0 0 00" ≡ None
unfolding line
both = refl

-- the length: a name of 246 letters makes 256 bytes
long : (ℕ → Option Parsed)
unfolding line
long n = parse_line (bytes "0 " ++ replicate n 81 ++ bytes " 0 0 0 0")

whole : long 246 ≡ Instruction 0 kind_count 0 0 0 0
unfolding long
whole = refl

over : long 247 ≡ None
unfolding long
over = refl
