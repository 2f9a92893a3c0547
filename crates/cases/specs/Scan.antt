-- A decimal number in a text.
use Rattle.std.specs.Prelude.{ℕ, ◌+◌, ◌-◌, ◌*◌, ◌%◌, ◌^◌, Bool, cond, ◌&&◌, List, [], ◌∷◌, drop, nat_le}

-- what a text says at a place, and the place after it
pub record Read (A : Type 0) : Type 0 where
  pub value : A
  pub next : ℕ

abbrev pub read : {A : Type 0} → A → ℕ → Read A
read value next = record { value = value; next = next }

-- `0` to `9` in ASCII
abbrev pub is_digit : ℕ → Bool
is_digit b = nat_le 48 b && nat_le b 57

-- the number that goes on in a text at a place, with the value of its digits so far; the first byte that is no digit ends it
unfoldable pub scan : ℕ → ℕ → List ℕ → Read ℕ
scan value at [] = read value at
scan value at (b ∷ bs) = cond (is_digit b) (scan ((value * 10 + (b - 48)) % 2 ^ 64) (at + 1) bs) (read value (at + 1))

-- the number whose digits start at a place of a text
unfoldable pub number_from : List ℕ → ℕ → Read ℕ
number_from text from = scan 0 from (drop from text)
