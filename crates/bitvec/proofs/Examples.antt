-- The definitions compute: the bench's starred values, and shifts by amounts at which no power is made. Assumes nothing.
use mathlib.Core.Path.{◌≡◌, refl}
use Prim.Native.Nat.{◌+◌, ◌-◌, ◌*◌, ◌^◌}
use Rattle.bitvec.specs.Smtlib.{bvadd, bvsub, bvmul, bvneg, bvnot, bvand, bvudiv, negative, bvsdiv, bvshl, bvlshr}
use Rattle.bitvec.specs.TwosComplement.{sext, signed, bits_of, quot}
use Rattle.bitvec.specs.Bytes.{byte_of, load_bytes}
use Rattle.bitvec.proofs.Composed.{or_lines, sra_lines, load_signed_lines, mask, store_lines}

a_huge_amount : bvshl 64 1 (2 ^ 63) + bvlshr 64 1 (2 ^ 63) ≡ 0
unfolding bvshl bvlshr
a_huge_amount = refl

lui_524288 : sext 32 64 (524288 * 4096) ≡ 18446744071562067968
unfolding sext negative
lui_524288 = refl

auipc : bvadd 64 65536 (sext 32 64 (1048575 * 4096)) ≡ 61440
unfolding bvadd sext negative
auipc = refl

lh_at_6 : load_signed_lines (2 ^ 63) 6 2 ≡ 2 ^ 64 - 32768
unfolding load_signed_lines sra_lines bvadd bvneg bvsub bvmul bvshl bvlshr
lh_at_6 = refl

div_by_zero : bvsdiv 64 (2 ^ 64 - 7) 0 ≡ 1
unfolding bvsdiv negative bvneg bvudiv
div_by_zero = refl

div_rounds : quot 64 (2 ^ 64 - 7) 2 ≡ 2 ^ 64 - 3
unfolding quot signed bits_of negative
div_rounds = refl

div_overflows : quot 64 (2 ^ 63) (2 ^ 64 - 1) ≡ 2 ^ 63
unfolding quot signed bits_of negative
div_overflows = refl

sh_at_2 : store_lines 0x1122334455667788 2 2 0xaabb ≡ 0x11223344aabb7788
unfolding store_lines mask or_lines bvand bvnot bvmul bvshl
sh_at_2 = refl

lw_at_3 : load_bytes (byte_of 0x1122334455667788) 3 4 ≡ 0x22334455
unfolding load_bytes byte_of
lw_at_3 = refl

-- the one quotient at which Divw's lines are not the manual's: -2 ^ 31 by -1 gives 2 ^ 31, and not -2 ^ 31
divw_differs : bvsdiv 64 (2 ^ 64 - 2 ^ 31) (2 ^ 64 - 1) ≡ 2 ^ 31
unfolding bvsdiv negative bvneg bvudiv
divw_differs = refl
