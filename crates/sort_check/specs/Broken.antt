-- Refusal 12 (document 01, "Who can be refused, and with what"): "the sort rule is broken".
use Rattle.std.specs.Prelude.{ℕ, Bool, not, ◌||◌, List}
use Rattle.btor2.specs.SortRule.{meets_sort_rule}
use Rattle.btor2_list.specs.View.{view}
use Rattle.list_check.specs.Lines.{ops, past_words}

-- of the first n lines of the lent words, or the words do not hold n lines
abbrev pub sort_broken_words : List ℕ → ℕ → Bool
sort_broken_words ws n = past_words ws n || not (meets_sort_rule (ops (view ws n)))
