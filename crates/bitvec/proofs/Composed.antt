-- What the lines compute that the builder composes where BTOR2 has an operator that it does not use. Assumes nothing.
use Prim.Native.Nat.{ℕ, ◌-◌, ◌*◌, ◌^◌}
use Rattle.bitvec.specs.Smtlib.{bvnot, bvand, bvadd, bvsub, bvmul, bvshl, bvlshr, bvult}

-- not, not, and, not
unfoldable pub or_lines : ℕ → ℕ → ℕ → ℕ
or_lines w a b = bvnot w (bvand (bvnot w a) (bvnot w b))

-- or, and, sub
unfoldable pub xor_lines : ℕ → ℕ → ℕ → ℕ
xor_lines w a b = bvsub w (or_lines w a b) (bvand a b)

-- 2 ^ (w - 1), add, srl, srl, sub
unfoldable pub sra_lines : ℕ → ℕ → ℕ → ℕ
sra_lines w x n = bvsub w (bvlshr w (bvadd w x (2 ^ (w - 1))) n) (bvlshr w (2 ^ (w - 1)) n)

-- 2 ^ (w - 1), add, add, ult
unfoldable pub slt_lines : ℕ → ℕ → ℕ → ℕ
slt_lines w x y = bvult (bvadd w x (2 ^ (w - 1))) (bvadd w y (2 ^ (w - 1)))

-- a load of n bytes at offset o of the word c, zero-extended: (64 - 8 n) - 8 o, sll, srl
unfoldable pub load_lines : ℕ → ℕ → ℕ → ℕ
load_lines c o n = bvlshr 64 (bvshl 64 c (bvsub 64 (64 - 8 * n) (bvmul 64 8 o))) (64 - 8 * n)

-- and sign-extended: sra, in its lines, for srl
unfoldable pub load_signed_lines : ℕ → ℕ → ℕ → ℕ
load_signed_lines c o n = sra_lines 64 (bvshl 64 c (bvsub 64 (64 - 8 * n) (bvmul 64 8 o))) (64 - 8 * n)

-- a store of the n low bytes of v at offset o of the word c: the mask is 2 ^ (8 n) - 1, sll by 8 o
unfoldable pub mask : ℕ → ℕ → ℕ
mask o n = bvshl 64 (2 ^ (8 * n) - 1) (bvmul 64 8 o)

unfoldable pub store_lines : ℕ → ℕ → ℕ → ℕ → ℕ
store_lines c o n v = or_lines 64 (bvand (bvshl 64 v (bvmul 64 8 o)) (mask o n)) (bvand c (bvnot 64 (mask o n)))
