-- Bytes as text: parting them, and decimal numbers.
use Rattle.std.specs.Prelude.{ℕ, suc, ◌+◌, ◌-◌, ◌*◌, Bool, true, false, cond, not, ◌&&◌, List, [], ◌∷◌, ltb, leb, eqb, Option, Some, None}

-- every byte passes the test
unfoldable pub all : (ℕ → Bool) → List ℕ → Bool
all p [] = true
all p (b ∷ bs) = p b && all p bs

-- b in front of the first part
unfoldable pub on_first : ℕ → List (List ℕ) → List (List ℕ)
on_first b [] = (b ∷ []) ∷ []
on_first b (part ∷ parts) = (b ∷ part) ∷ parts

-- the parts between the separators: one more than there are separators, and a part may be empty
unfoldable pub split : ℕ → List ℕ → List (List ℕ)
split sep [] = [] ∷ []
split sep (b ∷ bs) = cond (eqb b sep) ([] ∷ split sep bs) (on_first b (split sep bs))

-- how many bytes stand before the first separator, or in all where there is none
unfoldable pub before : ℕ → List ℕ → ℕ
before sep [] = 0
before sep (b ∷ bs) = cond (eqb b sep) 0 (suc (before sep bs))

-- ---- decimal numbers

abbrev pub digit : ℕ → Bool
digit b = leb 48 b && leb b 57

-- a digit alone, or digits of which the first is not 0
unfoldable pub decimal : List ℕ → Bool
unfolding all
decimal [] = false
decimal (b ∷ []) = digit b
decimal (b ∷ c ∷ bs) = not (eqb b 48) && all digit (b ∷ c ∷ bs)

-- the number that the digits continue n to
unfoldable pub onward : ℕ → List ℕ → ℕ
onward n [] = n
onward n (b ∷ bs) = onward (n * 10 + (b - 48)) bs

abbrev pub digits_value : List ℕ → ℕ
digits_value bs = onward 0 bs

-- the decimal number below the limit that the bytes are
unfoldable pub number_below : ℕ → List ℕ → Option ℕ
number_below limit bs = cond (decimal bs && ltb (digits_value bs) limit) (Some (digits_value bs)) None
