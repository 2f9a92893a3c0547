-- What only private contracts cite.
use Rattle.std.specs.Prelude.{◌≡◌, ℕ, ◌+◌, ◌<◌, true, List, length, Result, Ok, Err}
use Rattle.btor2.specs.Op.{Op, map_op, const, read, write, bin, uext, ite, eq, and, or, not, state, state_init, next, input, bad, unknown}
use Rattle.btor2.specs.SortRule.{bit_or_word}
use Rattle.btor2.specs.Value.{Env}
use Rattle.btor2_list.specs.Record.{record_at, capacity}
use Rattle.btor2_list.specs.Node.{op_of}
use Rattle.btor2_list.specs.View.{view}
use Rattle.list_check.specs.Lines.{ops}
use Rattle.refusals.specs.Refusal.{refusal_number}
use Rattle.refusals.specs.declared.Refusal.{Refusal}
use Rattle.evaluation.specs.declared.Evaluated as Code
use Rattle.evaluation.specs.Answer.{Evaluated, Refused, Value}
use Rattle.evaluation.specs.Given.{given_env}
use Rattle.evaluation.specs.Evaluation.{most_visits, after_value, Look, look_of, looks_at}
use Rattle.evaluation_calls.specs.declared.Bench.{Bench}

-- what the record at place p says
abbrev pub said_at : List ℕ → ℕ → Op ℕ
said_at ws p = op_of (record_at ws p)

-- the lines of all the lent words: what a line comes to depends on no later one
abbrev pub all_of : List ℕ → List (Op ℕ)
all_of ws = ops (view ws (capacity (length ws)))

abbrev pub env_of : Bench → Env
env_of b = given_env b.values.now b.memory.now

unfoldable pub num_from : Bench → ℕ → ℕ → Evaluated
num_from b p n = (looks_at most_visits (env_of b) (all_of b.list.now) p).num n

unfoldable pub cell_from : Bench → ℕ → ℕ → ℕ → Evaluated
cell_from b p a n = (looks_at most_visits (env_of b) (all_of b.list.now) p).cell a n

-- f of two numbers, one after the other: of two that the code gives, and of two lines
abbrev pub joined_of : (ℕ → ℕ → ℕ) → Result (Code.Evaluated × Code.Evaluated) Refusal → Evaluated
joined_of f (Ok (x, y)) = Value (f x.value y.value) y.visits
joined_of f (Err r) = Refused (refusal_number r)

unfoldable pub of_both : (ℕ → ℕ → ℕ) → (ℕ → Evaluated) → (ℕ → Evaluated) → ℕ → Evaluated
of_both f a b n = after_value (a n) (λ x k. after_value (b k) (λ y m. Value (f x y) m))

-- what a visited line at place p that says o comes to, by what its operands come to
unfoldable pub told_by : Bench → ℕ → Op ℕ → Look
told_by b p o = look_of (env_of b) p (map_op (looks_at most_visits (env_of b) (all_of b.list.now)) o)

-- the operands that are looked at stand before place p, and a Not has a sort with bits to turn
abbrev pub Fit : ℕ → Op ℕ → Type 0
Fit p (const s n) = Unit
Fit p (read m a) = (m < p) × (a < p)
Fit p (write m a v) = (m < p) × (a < p) × (v < p)
Fit p (bin o a b) = (a < p) × (b < p)
Fit p (uext s a) = a < p
Fit p (ite s c a b) = (c < p) × (a < p) × (b < p)
Fit p (eq a b) = (a < p) × (b < p)
Fit p (and s a b) = (a < p) × (b < p)
Fit p (or s a b) = (a < p) × (b < p)
Fit p (not s a) = (bit_or_word s ≡ true) × (a < p)
Fit p (state s m) = Unit
Fit p (state_init s a m) = Unit
Fit p (next s a b) = Unit
Fit p (input s m) = Unit
Fit p (bad a m) = Unit
Fit p unknown = Unit

-- a visit, after v others, of the line at place p, which says o; and one that is refused
pub record Entered (b : Bench) (p v : ℕ) (o : Op ℕ) : Type 0 where
  pub fit : Fit p o
  pub num : num_from b p v ≡ (told_by b p o).num (v + 1)
  pub cell : (a : ℕ) → cell_from b p a v ≡ (told_by b p o).cell a (v + 1)
  pub counted : v < most_visits

pub record Stopped (b : Bench) (p v : ℕ) (r : Refusal) : Type 0 where
  pub num : num_from b p v ≡ Refused (refusal_number r)
  pub cell : (a : ℕ) → cell_from b p a v ≡ Refused (refusal_number r)
