-- Refusal 10 (document 01, "Who can be refused, and with what"): "identifiers don't rise (two for a State with init), one taken is 0, 1, 2, 3
-- or 11 to 17, or the next one isn't above 17 and all those taken".
use Rattle.std.specs.Prelude.{ℕ, zero, suc, ◌+◌, Bool, true, not, ◌&&◌, ◌||◌, List, [], ◌∷◌, ◌++◌, leb, ltb}
use Rattle.btor2.specs.Op.{identifiers}
use Rattle.btor2_list.specs.Node.{Node}
use Rattle.btor2_list.specs.View.{view}
use Rattle.list_check.specs.Lines.{any, past_words}

-- k numbers from n on
abbrev pub onwards : ℕ → ℕ → List ℕ
onwards n zero = []
onwards n (suc k) = n ∷ onwards (n + 1) k

-- the identifiers that lines take: "two for a State with init"; a line of an unknown kind takes one
abbrev pub taken_by : Node → List ℕ
taken_by x = onwards x.nid (identifiers x.op)

unfoldable pub taken : List Node → List ℕ
taken [] = []
taken (x ∷ xs) = taken_by x ++ taken xs

-- each is above the one before it, and the first above `last`
unfoldable pub rising : ℕ → List ℕ → Bool
rising last [] = true
rising last (t ∷ ts) = ltb last t && rising t ts

-- "0, 1, 2, 3 or 11 to 17"
abbrev pub reserved : ℕ → Bool
reserved t = ltb t 4 || (leb 11 t && leb t 17)

-- 10, of the identifiers taken and the next one. That the first is above 0 asks no more, since 0 is reserved.
unfoldable pub nids_out : ℕ → List ℕ → Bool
nids_out next ts = not (rising 0 ts) || (any reserved ts || (leb next 17 || any (leb next) ts))

-- of the first n lines of the lent words, or the words do not hold n lines
abbrev pub nids_out_words : List ℕ → ℕ → ℕ → Bool
nids_out_words ws n next = past_words ws n || nids_out next (taken (view ws n))
