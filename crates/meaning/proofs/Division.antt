-- Div and Divw at any two registers: their lines give the manual's quotient but in three corners, and there another one. The corners are those of
-- docs/DIFFERENCES.md, "Div and Divw"; an ordinary division is in none of them. Assumes nothing.
use Prim.Native.Nat.{ℕ, ◌+◌, ◌-◌, ◌^◌, ◌<◌}
use native.Mathlib.Omega.{arith}
use mathlib.Core.Path.{◌≡◌, refl, sym, ◌∙◌, ap}
use mathlib.Core.Bool.{Bool, true, false, cond, ◌&&◌, ◌||◌, not}
use mathlib.Core.List.{List, [], ◌∷◌, map}
use lib.Dec.{T, eqb, lit<}
use borrow.Author.Tests.{eqb-true, eqb-false}
use Rattle.bitvec.specs.Smtlib.{negative, bvneg, bvudiv, bvsdiv, bvshl}
use Rattle.bitvec.specs.TwosComplement.{sext, signed, bits_of, quot}
use Rattle.bitvec.proofs.Base.{by_le, sext_pos, sext_neg, neg_yes, neg_no}
use Rattle.bitvec.proofs.Composed.{sra_lines}
use Rattle.bitvec.proofs.Divide.{sdiv_zero_neg, sdiv_zero_pos}
use Rattle.bitvec.proofs.Word as Word
use Rattle.btor2.specs.declared.Name.{Name}
use Rattle.btor2.specs.Value.{Value, number, Env}
use Rattle.riscv.specs.declared.Kind.{Kind}
use Rattle.riscv.specs.declared.Kind.TheVariants.{Div, Divu, Divw}
use Rattle.riscv.specs.Kind.{one_of}
use Rattle.riscv.specs.declared.Zeros.{Zeros}
use Rattle.riscv.specs.Manual.{sets_rd, manual}
use Rattle.lowering_laws.proofs.Template.{Role, rs1, rs2, division_flow, role, template}
use Rattle.meaning.specs.Division.{low32, least32, minus_one32, by_zero, least_by_minus_one, ordinary}
use Rattle.meaning.proofs.Agrees.{outcome, Agrees}
use Rattle.meaning.proofs.Words.{positive}

-- a negative dividend over zero
abbrev pub negative_by_zero : Kind → ℕ → ℕ → Bool
negative_by_zero k x y = by_zero k y && cond (one_of k (Divw ∷ [])) (negative 32 (low32 x)) (negative 64 x)

-- what the lines give, where the manual gives q
abbrev pub quotient_given : Kind → ℕ → ℕ → ℕ → ℕ
quotient_given k x y q = cond (negative_by_zero k x y) 1 (cond (least_by_minus_one k x y) (2 ^ 31) q)

-- the manual's quotients
abbrev pub div_quotient : ℕ → ℕ → ℕ
div_quotient x y = cond (eqb y 0) (2 ^ 64 - 1) (quot 64 x y)

abbrev pub divw_quotient : ℕ → ℕ → ℕ
divw_quotient x y = sext 32 64 (cond (eqb (low32 y) 0) (2 ^ 32 - 1) (quot 32 (low32 x) (low32 y)))

-- ---- Div

sdiv_by_zero : (x : ℕ) → bvsdiv 64 x 0 ≡ cond (negative 64 x) 1 (2 ^ 64 - 1)
sdiv_by_zero x =
    by_le (2 ^ 63) x
    (λ l. sdiv_zero_neg 64 (lit< tt) l ∙ sym (ap (λ t. cond t 1 (2 ^ 64 - 1)) (neg_yes 64 l)))
    (λ l. sdiv_zero_pos 64 l ∙ sym (ap (λ t. cond t 1 (2 ^ 64 - 1)) (neg_no 64 l)))

pub div_given : (x y : ℕ) → x < 2 ^ 64 → y < 2 ^ 64 → bvsdiv 64 x y ≡ quotient_given Div x y (div_quotient x y)
div_given x y hx hy = go (eqb y 0) refl
  where
    go : (t : Bool) → eqb y 0 ≡ t → bvsdiv 64 x y ≡ cond ((t || false) && negative 64 x) 1 (cond t (2 ^ 64 - 1) (quot 64 x y))
    go true q = ap (bvsdiv 64 x) (eqb-true y 0 q) ∙ sdiv_by_zero x
    go false q = Word.div x y hx hy (positive y q)

-- ---- Divw

-- the low 32 bits as the lines extend them
abbrev extended : ℕ → ℕ
extended x = sra_lines 64 (bvshl 64 x 32) 32

extended_sign : (x : ℕ) → negative 64 (sext 32 64 x) ≡ negative 32 (low32 x)
extended_sign x =
    by_le (2 ^ 31) (low32 x)
    (λ l. rw (sext_neg 32 64 x l) (neg_yes 64 (omega arith)) ∙ sym (neg_yes 32 l))
    (λ l. rw (sext_pos 32 64 x l) (neg_no 64 (omega arith)) ∙ sym (neg_no 32 l))

module _ (x y : ℕ) where
  word_by_zero : low32 y ≡ 0 → bvsdiv 64 (extended x) (extended y) ≡ cond (negative 32 (low32 x)) 1 (2 ^ 64 - 1)
  word_by_zero e =
      rw (Word.low32 x, Word.low32 y, sext_pos 32 64 y (omega arith), e)
      (sdiv_by_zero (sext 32 64 x) ∙ ap (λ t. cond t 1 (2 ^ 64 - 1)) (extended_sign x))

  least_by_minus_one_lem : low32 x ≡ least32 → low32 y ≡ minus_one32 → bvsdiv 64 (extended x) (extended y) ≡ 2 ^ 31
  unfolding bvsdiv negative bvneg bvudiv
  least_by_minus_one_lem a b = rw (Word.low32 x, Word.low32 y, sext_neg 32 64 x (omega arith), sext_neg 32 64 y (omega arith), a, b) refl

  pub divw_given : bvsdiv 64 (extended x) (extended y) ≡ quotient_given Divw x y (divw_quotient x y)
  unfolding sext negative
  divw_given = go (eqb (low32 y) 0) (eqb (low32 x) least32) (eqb (low32 y) minus_one32) refl refl refl
    where
      go : (t a b : Bool) → eqb (low32 y) 0 ≡ t → eqb (low32 x) least32 ≡ a → eqb (low32 y) minus_one32 ≡ b
          → bvsdiv 64 (extended x) (extended y)
          ≡ cond (t && negative 32 (low32 x)) 1 (cond (a && b) (2 ^ 31) (sext 32 64 (cond t (2 ^ 32 - 1) (quot 32 (low32 x) (low32 y)))))
      go true true true q qa qb = absurd (omega (arith, eqb-true (low32 y) 0 q, eqb-true (low32 y) minus_one32 qb))
      go true true false q qa qb = word_by_zero (eqb-true (low32 y) 0 q)
      go true false b q qa qb = word_by_zero (eqb-true (low32 y) 0 q)
      go false true true q qa qb = least_by_minus_one_lem (eqb-true (low32 x) least32 qa) (eqb-true (low32 y) minus_one32 qb)
      go false true false q qa qb = Word.divw_lines x y (positive (low32 y) q) (λ e. eqb-false (low32 y) minus_one32 qb e.1)
      go false false b q qa qb = Word.divw_lines x y (positive (low32 y) q) (λ e. eqb-false (low32 x) least32 qa e.0)

-- ---- an ordinary division is in no corner

ordinary_given : (k : Kind) (x y q : ℕ) → T (ordinary k x y) → quotient_given k x y q ≡ q
ordinary_given k x y q o = go (by_zero k y) (cond (one_of k (Divw ∷ [])) (negative 32 (low32 x)) (negative 64 x)) (least_by_minus_one k x y) o
  where
    go : (z n l : Bool) → T (not z && not l) → cond (z && n) 1 (cond l (2 ^ 31) q) ≡ q
    go true n l o = absurd o
    go false n true o = absurd o
    go false n false o = refl

pub div : (x y : ℕ) → x < 2 ^ 64 → y < 2 ^ 64 → T (ordinary Div x y) → bvsdiv 64 x y ≡ div_quotient x y
div x y hx hy o = div_given x y hx hy ∙ ordinary_given Div x y (div_quotient x y) o

pub divw : (x y : ℕ) → T (ordinary Divw x y) → bvsdiv 64 (extended x) (extended y) ≡ divw_quotient x y
divw x y o = divw_given x y ∙ ordinary_given Divw x y (divw_quotient x y) o

-- ---- in a corner the lines' quotient is not the manual's

abbrev pub corner : Kind → ℕ → ℕ → Bool
corner k x y = negative_by_zero k x y || least_by_minus_one k x y

module _ (x y : ℕ) where
  pub div_differs : T (corner Div x y) → ¬ (quotient_given Div x y (div_quotient x y) ≡ div_quotient x y)
  div_differs = go (eqb y 0) (negative 64 x)
    where
      go : (t n : Bool) → T (((t || false) && n) || false) → ¬ (cond ((t || false) && n) 1 (cond t (2 ^ 64 - 1) (quot 64 x y)) ≡ cond t (2 ^ 64 - 1) (quot 64 x y))
      go true true c e = absurd (omega (arith, e))
      go true false c e = absurd c
      go false n c e = absurd c

  least_quotient : low32 x ≡ least32 → low32 y ≡ minus_one32 → sext 32 64 (quot 32 (low32 x) (low32 y)) ≡ 2 ^ 64 - 2 ^ 31
  unfolding sext quot signed bits_of negative
  least_quotient a b = rw (a, b) refl

  pub divw_differs : T (corner Divw x y) → ¬ (quotient_given Divw x y (divw_quotient x y) ≡ divw_quotient x y)
  unfolding sext negative
  divw_differs = go (eqb (low32 y) 0) (negative 32 (low32 x)) (eqb (low32 x) least32) (eqb (low32 y) minus_one32) refl refl refl
    where
      go : (t n a b : Bool) → eqb (low32 y) 0 ≡ t → eqb (low32 x) least32 ≡ a → eqb (low32 y) minus_one32 ≡ b → T ((t && n) || (a && b))
          → ¬ (cond (t && n) 1 (cond (a && b) (2 ^ 31) (sext 32 64 (cond t (2 ^ 32 - 1) (quot 32 (low32 x) (low32 y))))) ≡ sext 32 64 (cond t (2 ^ 32 - 1) (quot 32 (low32 x) (low32 y))))
      go true true a b q qa qb c e = absurd (omega (arith, e))
      go true false true true q qa qb c e = absurd (omega (arith, eqb-true (low32 y) 0 q, eqb-true (low32 y) minus_one32 qb))
      go true false true false q qa qb c e = absurd c
      go true false false b q qa qb c e = absurd c
      go false n true true q qa qb c e = absurd (omega (arith, e, least_quotient (eqb-true (low32 x) least32 qa) (eqb-true (low32 y) minus_one32 qb)))
      go false n true false q qa qb c e = absurd c
      go false n false b q qa qb c e = absurd c

-- ---- the lines of the two kinds, at any values of the roles

module _ (env : Env) (n : ℕ) (of_role : Role → Value) (imm : ℕ) (name : Name) (z : Zeros) where
  abbrev x : ℕ
  x = (of_role rs1).num

  abbrev y : ℕ
  y = (of_role rs2).num

  -- where the flag is 1, rd's flow is q; where it is not, what it was
  abbrev Gives : Kind → ℕ → Type 0
  Gives k q = Agrees env n of_role z.rd (sets_rd q) (outcome env n of_role (template imm name k z))

  pub div_lines : x < 2 ^ 64 → y < 2 ^ 64 → Gives Div (quotient_given Div x y (div_quotient x y))
  unfolding outcome template
  div_lines hx hy = record { result = number (bvsdiv 64 x y); is = refl; right = λ on. div_given x y hx hy }

  pub divw_lines : Gives Divw (quotient_given Divw x y (divw_quotient x y))
  unfolding outcome template sra_lines
  divw_lines = record { result = number (bvsdiv 64 (extended x) (extended y)); is = refl; right = λ on. divw_given x y }

  -- Divw leaves the division flow as it was
  pub divw_division_flow : (template imm name Divw z).gives.flows.division ≡ role division_flow
  unfolding template
  divw_division_flow = refl

module _ (imm pc x y : ℕ) (bytes : ℕ → ℕ) where
  div_manual : manual imm pc x y bytes Div ≡ sets_rd (div_quotient x y)
  unfolding manual
  div_manual = refl

  divw_manual : manual imm pc x y bytes Divw ≡ sets_rd (divw_quotient x y)
  unfolding manual
  divw_manual = refl

-- ---- worked

abbrev least64 : ℕ
least64 = 2 ^ 63

abbrev minus_one64 : ℕ
minus_one64 = 2 ^ 64 - 1

-- a division's kind, dividend and divisor, and whether it is ordinary
table : List (Kind × ℕ × ℕ × Bool)
table =
    -- −2^63 by −1, and for Divw the same registers, whose low words are 0 and −1
    (Div, least64, minus_one64, true)
    ∷ (Divw, least64, minus_one64, true)
    -- −2^31 by −1, for Divw with any high halves
    ∷ (Div, 2 ^ 64 - least32, minus_one64, true)
    ∷ (Divw, 2 ^ 64 - least32, minus_one64, false)
    ∷ (Divw, 2 ^ 32 + least32, minus_one32, false)
    -- by zero, for Divw in the low word
    ∷ (Div, 7, 0, false)
    ∷ (Div, 7, 2 ^ 32, true)
    ∷ (Divw, 7, 2 ^ 32, false)
    -- no Div or Divw
    ∷ (Divu, 7, 0, true)
    ∷ []

worked : map (λ c. ordinary c.0 c.1 c.2) table ≡ map (λ c. c.3) table
unfolding table
worked = refl
