-- An operand by a lookup (document 01, refusal 11: "an operand that isn't an earlier value line").
use Rattle.std.specs.Prelude.{ℕ, Bool, not, List}
use Rattle.btor2_list.specs.Look.{look_at}
use Rattle.list_check.specs.Formed.{has_value}

-- the lookup from line i finds no value
abbrev pub no_value_at : List ℕ → ℕ → ℕ → Bool
no_value_at ws i q = not (has_value (look_at ws i q).sort)
