-- What refusal 19 says of the lines (document 02, R-2): "an unknown kind or sort or a broken operand anywhere in it".
use Rattle.std.specs.Prelude.{ℕ, Bool, ◌||◌, List}
use Rattle.std.proofs.Math.Bool as B
use Rattle.btor2.specs.Op.{Op}
use Rattle.btor2_list.specs.View.{view}
use Rattle.list_check.specs.Lines.{ops, op_at, some, any, past_words}
use Rattle.list_check.specs.Formed.{is_unknown, operands, earlier_value}

-- of one line, `out` telling the operands that are no earlier value lines
unfoldable pub op_broken : (ℕ → Bool) → Op ℕ → Bool
op_broken out o = is_unknown o || any out (operands o)

abbrev pub line_broken : List (Op ℕ) → ℕ → Bool
line_broken xs p = op_broken (λ q. B.not (earlier_value xs p q)) (op_at xs p)

-- of the first n lines of the lent words, or the words do not hold n lines
abbrev pub broken_words : List ℕ → ℕ → Bool
broken_words ws n = past_words ws n || some n (line_broken (ops (view ws n)))
