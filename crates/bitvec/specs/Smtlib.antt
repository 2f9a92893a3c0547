-- SMT-LIB's fixed-size bit-vectors (theory FixedSizeBitVectors, logic QF_BV), which the BTOR2 paper names as the meaning of its
-- operators. A bit-vector of width w is its number, bv2nat, which is below 2 ^ w; `% 2 ^ w` is nat2bv. Assumes nothing.
use Rattle.std.specs.Prelude.{ℕ, ◌+◌, ◌-◌, ◌*◌, ◌/◌, ◌%◌, ◌^◌, Bool, true, false, ltb, leb, eqb}
use Rattle.std.specs.Int.Bits.{bit_and, bit_or}

-- a truth value as a bit-vector of width 1 (BTOR2's bitvec 1)
unfoldable pub bit : Bool → ℕ
bit true = 1
bit false = 0

-- bvnot: every bit turned
unfoldable pub bvnot : ℕ → ℕ → ℕ
bvnot w s = 2 ^ w - 1 - s

-- bvand, bvor: bit by bit
unfoldable pub bvand : ℕ → ℕ → ℕ
bvand s t = bit_and s t

unfoldable pub bvor : ℕ → ℕ → ℕ
bvor s t = bit_or s t

-- bvneg: 2 ^ w - bv2nat s
unfoldable pub bvneg : ℕ → ℕ → ℕ
bvneg w s = (2 ^ w - s) % 2 ^ w

unfoldable pub bvadd : ℕ → ℕ → ℕ → ℕ
bvadd w s t = (s + t) % 2 ^ w

-- bvsub: bvadd s (bvneg t)
unfoldable pub bvsub : ℕ → ℕ → ℕ → ℕ
bvsub w s t = bvadd w s (bvneg w t)

unfoldable pub bvmul : ℕ → ℕ → ℕ → ℕ
bvmul w s t = s * t % 2 ^ w

-- bvudiv: by zero all ones
unfoldable pub bvudiv : ℕ → ℕ → ℕ → ℕ
bvudiv w s t = elim (eqb t 0) [ true ↦ 2 ^ w - 1 | false ↦ s / t ]

-- bvurem: by zero the dividend
unfoldable pub bvurem : ℕ → ℕ → ℕ
bvurem s t = elim (eqb t 0) [ true ↦ s | false ↦ s % t ]

-- the sign bit, ((_ extract w-1 w-1) s), is 1
unfoldable pub negative : ℕ → ℕ → Bool
negative w s = leb (2 ^ (w - 1)) s

-- bvsdiv: bvudiv of the magnitudes, negated where the signs differ
unfoldable pub bvsdiv : ℕ → ℕ → ℕ → ℕ
bvsdiv w s t =
    elim (negative w s) [
      | true ↦ elim (negative w t) [ true ↦ bvudiv w (bvneg w s) (bvneg w t) | false ↦ bvneg w (bvudiv w (bvneg w s) t) ]
      | false ↦ elim (negative w t) [ true ↦ bvneg w (bvudiv w s (bvneg w t)) | false ↦ bvudiv w s t ]
    ]

-- bvshl, bvlshr: s * 2 ^ t and s / 2 ^ t at width w. From the width on both are 0; the test spares the power of a huge t.
unfoldable pub bvshl : ℕ → ℕ → ℕ → ℕ
bvshl w s t = elim (ltb t w) [ true ↦ s * 2 ^ t % 2 ^ w | false ↦ 0 ]

unfoldable pub bvlshr : ℕ → ℕ → ℕ → ℕ
bvlshr w s t = elim (ltb t w) [ true ↦ s / 2 ^ t | false ↦ 0 ]

unfoldable pub bvult : ℕ → ℕ → ℕ
bvult s t = bit (ltb s t)

-- bvcomp: 1 where the two are equal (BTOR2's eq)
unfoldable pub bvcomp : ℕ → ℕ → ℕ
bvcomp s t = bit (eqb s t)

-- (_ zero_extend i): the same number at a larger width (BTOR2's uext)
unfoldable pub zero_extend : ℕ → ℕ
zero_extend s = s

-- ite with BTOR2's condition, a bit-vector of width 1
unfoldable pub ite : {A : Type 0} → ℕ → A → A → A
ite c a b = elim (eqb c 1) [ true ↦ a | false ↦ b ]
