-- A name as bytes, and in one word.
use Rattle.std.specs.Prelude.{ℕ, ◌+◌, ◌*◌, List, [], ◌∷◌}
use Prim.Native.String.{String, [] as nothing, ◌∷◌ as ◌▸◌}
use Prim.Native.Char.{code}

-- the bytes of an ASCII text
abbrev pub bytes : String → List ℕ
bytes nothing = []
bytes (c ▸ s) = code c ∷ bytes s

-- the most bytes of a name that one word of 64 bits holds with a 1 above them
abbrev pub most_letters : ℕ
most_letters = 7

-- a name in one word: its bytes, the first lowest, and a 1 above them
unfoldable pub packed : List ℕ → ℕ
packed [] = 1
packed (b ∷ bs) = packed bs * 256 + b
