-- What only private contracts cite.
use Rattle.std.specs.Prelude.{ℕ, ◌/◌, ◌%◌, List, [], ◌∷◌, ◌++◌}
use Rattle.text.specs.Numeral.{glyph}

-- the two digits of a number below 100, the four of one below 10000, and the eight of one below 100000000, with the zeros before them
abbrev pub two : ℕ → List ℕ
two x = glyph (x / 10) ∷ glyph (x % 10) ∷ []

abbrev pub four : ℕ → List ℕ
four x = two (x / 100) ++ two (x % 100)

abbrev pub eight : ℕ → List ℕ
eight x = four (x / 10000) ++ four (x % 10000)
