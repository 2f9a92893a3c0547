-- What only private contracts cite: the kinds whose lines have a sort of their own.
use Rattle.std.specs.Prelude.{ℕ, Bool, ◌||◌, ◌==◌}

-- Const, Ext, Ite, And, Or, Not, State, Next, Input
abbrev pub own_sort : ℕ → Bool
own_sort k = k == 1 || (k == 13 || (k == 14 || (k == 16 || (k == 17 || (k == 18 || (k == 19 || (k == 20 || k == 21)))))))
