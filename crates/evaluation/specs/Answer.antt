-- What the bench answers (document 02, R-2): the number of a refusal; or a value, and the visits that it took.
use Rattle.std.specs.Prelude.{ℕ, Result, Ok, Err}
use Rattle.refusals.specs.Refusal.{refusal_number}
use Rattle.refusals.specs.declared.Refusal.{Refusal}
use Rattle.evaluation.specs.declared.Evaluated as Code

pub data Evaluated : Type 0 where
  Refused : ℕ → Evaluated
  Value : ℕ → ℕ → Evaluated

-- as the code gives it
abbrev pub evaluated_of : Result Code.Evaluated Refusal → Evaluated
evaluated_of (Ok x) = Value x.value x.visits
evaluated_of (Err r) = Refused (refusal_number r)
