-- How a line of input is gathered from the pieces that are read, whatever their sizes.
use Rattle.std.specs.Prelude.{ℕ, ◌+◌, Bool, cond, List, ltb, length, take, drop}
use Rattle.listing_input.specs.Text.{before}

-- the byte that ends a line
abbrev pub newline_byte : ℕ
newline_byte = 10

-- of the bytes of a piece from a place on: how many stand before the first newline, and which
abbrev pub line_length : List ℕ → ℕ → ℕ
line_length piece from = before newline_byte (drop from piece)

unfoldable pub line_bytes : List ℕ → ℕ → List ℕ
line_bytes piece from = take (line_length piece from) (drop from piece)

-- a newline is among them
unfoldable pub line_ends : List ℕ → ℕ → Bool
line_ends piece from = ltb (line_length piece from) (length (drop from piece))

-- after that newline, or after the piece
unfoldable pub line_next : List ℕ → ℕ → ℕ
line_next piece from = cond (line_ends piece from) (from + line_length piece from + 1) (length piece)
