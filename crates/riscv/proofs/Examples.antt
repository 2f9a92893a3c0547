-- The manual, worked at some corners. Assumes nothing.
use Prim.Native.Nat.{ℕ, ◌+◌, ◌-◌, ◌^◌}
use mathlib.Core.Path.{◌≡◌, refl}
use mathlib.Core.Bool.{cond}
use lib.Dec.{eqb}
use Rattle.bitvec.specs.Smtlib.{negative}
use Rattle.bitvec.specs.TwosComplement.{sext, sra, signed, bits_of, quot}
use Rattle.bitvec.specs.Bytes.{byte_of, load_bytes, store_bytes}
use Rattle.riscv.specs.declared.Kind.TheVariants.{Lui, Auipc, Lh, Sraiw, Srliw, Div, Divw, Jal}
use Rattle.riscv.specs.Manual.{sets_rd, load_at, store_at, manual}
use Rattle.riscv.specs.Memory.{bytes_of, cells_with}

abbrev empty : ℕ → ℕ
empty a = 0

lui : manual 524288 0 0 0 empty Lui ≡ sets_rd 18446744071562067968
unfolding manual sext negative
lui = refl

auipc : manual 1048575 65536 0 0 empty Auipc ≡ sets_rd 61440
unfolding manual sext negative
auipc = refl

-- from the cell 2 ^ 63 at offset 6: -32768
lh : manual 6 0 0 0 (bytes_of (λ a. cond (eqb a 0) (2 ^ 63) 0)) Lh ≡ sets_rd (2 ^ 64 - 32768)
unfolding manual load_at load_bytes bytes_of byte_of sext negative
lh = refl

-- by zero: -1, also of a negative dividend
div_zero : manual 0 0 (2 ^ 64 - 7) 0 empty Div ≡ sets_rd (2 ^ 64 - 1)
unfolding manual
div_zero = refl

-- -2 ^ 31 by -1 wraps to -2 ^ 31
divw_wraps : manual 0 0 (2 ^ 31) (2 ^ 32 - 1) empty Divw ≡ sets_rd (2 ^ 64 - 2 ^ 31)
unfolding manual sext negative quot signed bits_of
divw_wraps = refl

-- bit 10 of SRAIW's immediate is no part of the amount
sraiw : manual (1024 + 4) 0 (2 ^ 31) 0 empty Sraiw ≡ sets_rd (2 ^ 64 - 2 ^ 27)
unfolding manual sext sra negative
sraiw = refl

-- SRLIW by 0 sign-extends
srliw_zero : manual 0 0 (2 ^ 31) 0 empty Srliw ≡ sets_rd (2 ^ 64 - 2 ^ 31)
unfolding manual sext negative
srliw_zero = refl

link_wraps : manual 8 (2 ^ 64 - 4) 0 0 empty Jal ≡ sets_rd 0
unfolding manual
link_wraps = refl

-- two bytes at address 2 of the cell at 0
store_two : cells_with empty (store_at (bytes_of empty) 2 2 0xaabb) 0 ≡ 0xaabb0000
unfolding cells_with store_at load_bytes store_bytes bytes_of byte_of
store_two = refl
