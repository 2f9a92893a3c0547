-- What the answers of the bench mean (document 02, R-2), for any limit of visits.
use Rattle.std.specs.Prelude.{ℕ, ◌<◌, ◌≤◌, ◌≡◌, false, List, T}
use Rattle.btor2.specs.SortRule.{meets_sort_rule}
use Rattle.btor2.specs.Value.{value}
use Rattle.btor2_list.specs.View.{view}
use Rattle.list_check.specs.Lines.{ops}
use Rattle.evaluation.specs.Given.{given_env}
use Rattle.evaluation.specs.Answer.{Refused, Value}
use Rattle.evaluation.specs.Evaluation.{too_many_visits, unfit, evaluated_within}

-- the value that the line at a place has (btor2/specs/Value) where states and inputs are what the records say: what demand 3 speaks of
abbrev pub value_given : List ℕ → ℕ → List ℕ → List ℕ → ℕ → ℕ
value_given ws n vs ms asked = (value (given_env vs ms) (ops (view ws n)) asked).num

-- where a value comes, it is the line's, and its visits are within the limit
pub record IsTheValue (limit : ℕ) (ws : List ℕ) (n : ℕ) (vs ms : List ℕ) (asked x k : ℕ) : Type 0 where
  pub same : x ≡ value_given ws n vs ms asked
  pub within : k ≤ limit

abbrev pub GivesTheValue : Type 0
GivesTheValue =
    (limit : ℕ) (ws : List ℕ) (n : ℕ) (vs ms : List ℕ) (asked x k : ℕ) → evaluated_within limit ws n vs ms asked ≡ Value x k
    → IsTheValue limit ws n vs ms asked x k

-- a value comes after a number of visits that no limit changes, and where a limit is lower, 18
pub record ValueComes (ws : List ℕ) (n : ℕ) (vs ms : List ℕ) (asked : ℕ) : Type 0 where
  pub visits : ℕ
  pub comes : (limit : ℕ) → visits ≤ limit → evaluated_within limit ws n vs ms asked ≡ Value (value_given ws n vs ms asked) visits
  pub over : (limit : ℕ) → limit < visits → evaluated_within limit ws n vs ms asked ≡ Refused too_many_visits

-- so it is where the list meets the sort rule and 19 does not apply
abbrev pub AnswersWhereRight : Type 0
AnswersWhereRight =
    (ws : List ℕ) (n : ℕ) (vs ms : List ℕ) (asked : ℕ) → T (meets_sort_rule (ops (view ws n))) → unfit ws n asked ≡ false → ValueComes ws n vs ms asked
