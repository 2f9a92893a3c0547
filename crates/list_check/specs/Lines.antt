-- The lines of a list, and tests over them.
use Rattle.std.specs.Prelude.{ℕ, zero, suc, Bool, false, ◌||◌, List, [], ◌∷◌, map, ltb, length, get_or}
use Rattle.btor2.specs.Op.{Op, unknown}
use Rattle.btor2_list.specs.Record.{capacity}
use Rattle.btor2_list.specs.Node.{Node}

-- what the lines say, without their identifiers
abbrev pub ops : List Node → List (Op ℕ)
ops xs = map (λ (x : Node). x.op) xs

abbrev pub op_at : List (Op ℕ) → ℕ → Op ℕ
op_at xs p = get_or xs p unknown

-- some place below n passes a test
unfoldable pub some : ℕ → (ℕ → Bool) → Bool
some zero test = false
some (suc n) test = some n test || test n

-- some entry of a list passes a test
abbrev pub any : {A : Type 0} → (A → Bool) → List A → Bool
any test [] = false
any test (x ∷ xs) = test x || any test xs

-- the words do not hold n lines
abbrev pub past_words : List ℕ → ℕ → Bool
past_words ws n = ltb (capacity (length ws)) n
