-- Two's complement, as the RISC-V Unprivileged ISA manual (20191213) uses it: sections 2.4 and 5.2, "Integer Computational
-- Instructions", and 7.2, "Division Operations". A register of w bits is a number below 2 ^ w, its sign bit being bit w - 1.
-- Assumes nothing.
use Rattle.std.specs.Prelude.{ℕ, suc, ◌+◌, ◌-◌, ◌/◌, ◌%◌, ◌^◌, true, false, ltb, ℤ, pos, negsuc}
use Rattle.std.specs.Int.Signed.{quot_z}
use Rattle.bitvec.specs.Smtlib.{bit, negative}

-- the k low bits of x, sign-extended to w bits: where bit k - 1 is set, so are the bits from k to w - 1
unfoldable pub sext : ℕ → ℕ → ℕ → ℕ
sext k w x = elim (negative k (x % 2 ^ k)) [ true ↦ x % 2 ^ k + (2 ^ w - 2 ^ k) | false ↦ x % 2 ^ k ]

-- arithmetic right shift by n < w: the sign bit is copied into the n vacated upper bits
unfoldable pub sra : ℕ → ℕ → ℕ → ℕ
sra w x n = elim (negative w x) [ true ↦ x / 2 ^ n + (2 ^ w - 2 ^ (w - n)) | false ↦ x / 2 ^ n ]

-- unsigned compare: 1 where x < y
unfoldable pub sltu : ℕ → ℕ → ℕ
sltu x y = bit (ltb x y)

-- signed compare: a negative number is below every other; two of one sign compare as their bits
unfoldable pub slt : ℕ → ℕ → ℕ → ℕ
slt w x y =
    elim (negative w x) [
      | true ↦ elim (negative w y) [ true ↦ sltu x y | false ↦ 1 ]
      | false ↦ elim (negative w y) [ true ↦ 0 | false ↦ sltu x y ]
    ]

-- the w bits x, read as a signed number
unfoldable pub signed : ℕ → ℕ → ℤ
signed w x = elim (negative w x) [ true ↦ negsuc (2 ^ w - suc x) | false ↦ pos x ]

-- the w low bits of z
unfoldable pub bits_of : ℕ → ℤ → ℕ
bits_of w (pos n) = n % 2 ^ w
bits_of w (negsuc n) = 2 ^ w - suc (n % 2 ^ w)

-- the signed quotient, rounded towards zero (section 7.2)
unfoldable pub quot : ℕ → ℕ → ℕ → ℕ
quot w x y = bits_of w (quot_z (signed w x) (signed w y))
