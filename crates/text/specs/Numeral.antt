-- Numbers as text.
use Rattle.std.specs.Prelude.{ℕ, zero, suc, ◌+◌, ◌/◌, ◌%◌, cond, List, [], ◌∷◌, ◌++◌, ltb}

-- the ASCII code of a digit below 16: `0` to `9`, then `a` to `f`
abbrev pub glyph : ℕ → ℕ
glyph d = cond (ltb d 10) (48 + d) (87 + d)

-- x in a base without leading zeros, at most k digits of it
unfoldable pub numeral : ℕ → ℕ → ℕ → List ℕ
numeral base zero x = []
numeral base (suc k) x = cond (ltb x base) [] (numeral base k (x / base)) ++ (glyph (x % base) ∷ [])

-- a number below 2 ^ 64 in decimal and in lower-case hexadecimal: it has at most 20 and 16 digits
abbrev pub decimal_text : ℕ → List ℕ
decimal_text x = numeral 10 20 x

abbrev pub hex_text : ℕ → List ℕ
hex_text x = numeral 16 16 x
