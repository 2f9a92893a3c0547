-- A line of the listing program's input (document 01, "The listing program has its own start").
use Rattle.std.specs.Prelude.{ℕ, ◌+◌, ◌-◌, ◌^◌, Bool, true, false, cond, ◌&&◌, ◌||◌, List, [], ◌∷◌, ltb, leb, eqb, length, get_or, Option, Some, None}
use Rattle.listing_input.specs.Text.{all, split, number_below}
use Rattle.listing_input.specs.Kinds.{kind_code}
use Rattle.listing_input.specs.declared.line.Parsed.{Parsed}

abbrev pub letter : ℕ → Bool
letter b = (leb 65 b && leb b 90) || (leb 97 b && leb b 122)

-- one letter or more
unfoldable pub letters : List ℕ → Bool
letters bs = ltb 0 (length bs) && all letter bs

-- the two's complement of a number that is not 0, in 64 bits
unfoldable pub negated : Option ℕ → Option ℕ
negated (Some n) = cond (eqb n 0) None (Some (2 ^ 64 - n))
negated None = None

-- a number within 32 signed bits, as 64 bits: `-` stands only before a number that is not 0
unfoldable pub immediate : List ℕ → Option ℕ
immediate [] = None
immediate (b ∷ bs) = cond (eqb b 45) (negated (number_below (2 ^ 31 + 1) bs)) (number_below (2 ^ 31) (b ∷ bs))

-- a line is malformed, which is none, unless the test passes, or unless the field is a number
infixl 20 ◌>>◌
infixl 20 ◌>>=◌
abbrev pub ◌>>◌ : Bool → Option Parsed → Option Parsed
true >> r = r
false >> r = None

abbrev pub ◌>>=◌ : Option ℕ → (ℕ → Option Parsed) → Option Parsed
Some n >>= r = r n
None >>= r = None

-- six fields parted by a space each
unfoldable pub instruction : List (List ℕ) → Option Parsed
instruction fields = do
  eqb (length fields) 6
  address ← number_below (2 ^ 64) (get_or fields 0 [])
  letters (get_or fields 1 [])
  rd ← number_below 256 (get_or fields 2 [])
  rs1 ← number_below 256 (get_or fields 3 [])
  rs2 ← number_below 256 (get_or fields 4 [])
  imm ← immediate (get_or fields 5 [])
  Some (record { address = address; instruction = record { kind = kind_code (get_or fields 1 []); rd = rd; rs1 = rs1; rs2 = rs2; imm = imm } })

unfoldable pub parse_line : List ℕ → Option Parsed
parse_line line = do
  leb (length line) 256
  instruction (split 32 line)
