-- The text of a row: `writeln!` of an identifier, a word, numbers and a name, with a space before each but the first.
use Rattle.std.specs.Prelude.{ℕ, Bool, true, false, List, [], ◌∷◌, ◌++◌}
use Rattle.text.specs.Ascii.{space, newline}
use Rattle.text.specs.Numeral.{decimal_text}

-- a name, where there is one
abbrev pub name_text : Bool → List ℕ → List ℕ
name_text true name = space ++ name
name_text false name = []

abbrev pub numbers_text : List ℕ → List ℕ
numbers_text [] = []
numbers_text (x ∷ xs) = space ++ decimal_text x ++ numbers_text xs

unfoldable pub row_text : ℕ → List ℕ → List ℕ → Bool → List ℕ → List ℕ
row_text nid word numbers named name = decimal_text nid ++ space ++ word ++ numbers_text numbers ++ name_text named name ++ newline
