-- The operators on words. Assumes nothing.
use Rattle.std.proofs.Common.{◌≡◌, ℕ, zero, suc, ◌+◌, ◌/◌, ◌%◌, ◌^◌, ◌<◌, ◌≤◌, Bool, true, false, eqb, refl, arith, Option, Some, None, SomeIff, sym, ◌∙◌, true≢false, ne_eqb}
use Rattle.std.specs.Int.{from_bool}
use Rattle.std.specs.Option.{unwrap_or}
use Rattle.btor2.specs.declared.NodeType.{NodeType}
use Rattle.btor2.specs.declared.NodeType.TheVariants.{Bit, Word, Memory, Input1Byte, Input2Byte, Input3Byte, Input4Byte, Input5Byte, Input6Byte, Input7Byte}
use Rattle.btor2.specs.SortRule.{bit_or_word}
use Rattle.bitvec.specs.Smtlib.{bit, bvnot, bvudiv, bvurem, bvneg, bvsdiv}
use Rattle.bitvec.proofs.Base.{neg_yes, neg_no}
use Rattle.bitvec.proofs.Divide.{udiv_is, udiv_zero, urem_is, urem_zero}

pub bit_is : (t : Bool) → from_bool t ≡ bit t
unfolding bit
bit_is true = refl
bit_is false = refl

pub bit_not : (x : ℕ) → bit (eqb x 0) ≡ bvnot 1 x
unfolding bit bvnot
bit_not zero = refl
bit_not (suc n) = rw (ne_eqb (suc n) 0 (λ e. omega arith)) (omega arith)

-- one of the two sorts with bits to turn
pub not_bit : (s : NodeType) → bit_or_word s ≡ true → (s ≡ Bit → ⊥) → s ≡ Word
not_bit Bit e h = absurd (h refl)
not_bit Word e h = refl
not_bit Memory e h = absurd (true≢false (sym e))
not_bit Input1Byte e h = absurd (true≢false (sym e))
not_bit Input2Byte e h = absurd (true≢false (sym e))
not_bit Input3Byte e h = absurd (true≢false (sym e))
not_bit Input4Byte e h = absurd (true≢false (sym e))
not_bit Input5Byte e h = absurd (true≢false (sym e))
not_bit Input6Byte e h = absurd (true≢false (sym e))
not_bit Input7Byte e h = absurd (true≢false (sym e))

pub quotient_is : (o : Option ℕ) (x y : ℕ) → SomeIff o (0 < y) (x / y) → unwrap_or o 18446744073709551615 ≡ bvudiv 64 x y
quotient_is (Some q) x y h = h.1 ∙ sym (udiv_is 64 x h.0)
quotient_is None x y h = let z : y ≡ 0 = omega arith in rw z (sym (udiv_zero 64 x))

pub remainder_is : (o : Option ℕ) (x y : ℕ) → SomeIff o (0 < y) (x % y) → unwrap_or o x ≡ bvurem x y
remainder_is (Some r) x y h = h.1 ∙ sym (urem_is x h.0)
remainder_is None x y h = let z : y ≡ 0 = omega arith in rw z (sym (urem_zero x))

pub neg_is : (x n : ℕ) → x < 2 ^ 64 → n < 2 ^ 64 → (n + x) % 2 ^ 64 ≡ 0 → n ≡ bvneg 64 x
unfolding bvneg
neg_is x n h k e = omega arith

-- a signed quotient, by the signs
pub sdiv_nn : (x y : ℕ) → 2 ^ 63 ≤ x → 2 ^ 63 ≤ y → bvsdiv 64 x y ≡ bvudiv 64 (bvneg 64 x) (bvneg 64 y)
unfolding bvsdiv
sdiv_nn x y h k = rw (neg_yes 64 h, neg_yes 64 k, bvsdiv)

pub sdiv_np : (x y : ℕ) → 2 ^ 63 ≤ x → y < 2 ^ 63 → bvsdiv 64 x y ≡ bvneg 64 (bvudiv 64 (bvneg 64 x) y)
unfolding bvsdiv
sdiv_np x y h k = rw (neg_yes 64 h, neg_no 64 k, bvsdiv)

pub sdiv_pn : (x y : ℕ) → x < 2 ^ 63 → 2 ^ 63 ≤ y → bvsdiv 64 x y ≡ bvneg 64 (bvudiv 64 x (bvneg 64 y))
unfolding bvsdiv
sdiv_pn x y h k = rw (neg_no 64 h, neg_yes 64 k, bvsdiv)

pub sdiv_pp : (x y : ℕ) → x < 2 ^ 63 → y < 2 ^ 63 → bvsdiv 64 x y ≡ bvudiv 64 x y
unfolding bvsdiv
sdiv_pp x y h k = rw (neg_no 64 h, neg_no 64 k, bvsdiv)
