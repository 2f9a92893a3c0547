-- The functions for a host: a call over the state's words is defined in lowering/specs (Words and All); here printing, whose answer is two
-- numbers, the check of a start, whose state is words, the bench, whose answer is three numbers, and a line's address, whose answer is two.
use Rattle.std.specs.Prelude.{ℕ, cond, List, ltb, length, Option, Some, None}
use Rattle.btor2_list.specs.Look.{address_at}
use Rattle.state.specs.declared.room.Room.{Room}
use Rattle.print.specs.Printing.{PrintAnswer, refused, written, printing}
use Rattle.start.specs.Start.{start_refusal}
use Rattle.state.specs.Words.{state_words, state_in}
use Rattle.evaluation.specs.Answer.{Evaluated, Refused, Value}
use Rattle.evaluation.specs.Evaluation.{evaluated}

-- ---- printing

-- the number of the refusal, how many bytes were written, and the output
pub record GivenText : Type 0 where
  pub refusal : ℕ
  pub length : ℕ
  pub output : List ℕ

abbrev pub given_text : ℕ → ℕ → List ℕ → GivenText
given_text n len out = record { refusal = n; length = len; output = out }

abbrev pub text_by : PrintAnswer → List ℕ → GivenText
text_by (refused n) out = given_text n 0 out
text_by (written len) out = given_text 0 len out

unfoldable pub host_printing : List ℕ → ℕ → List ℕ → List ℕ → ℕ → ℕ → List ℕ → GivenText
host_printing ws lines host ours from count out =
    let o = printing ws lines host ours from count out in text_by o.answer o.output

-- ---- a start

-- 9: "a count above its storage", where there is no room for the counts themselves
unfoldable pub host_check : List ℕ → ℕ → Room → List ℕ → ℕ
host_check list host room ws = cond (ltb (length ws) state_words) 9 (start_refusal list host room (state_in ws))

-- ---- the bench

-- the number of the refusal, the value, and the visits
pub record GivenNumbers : Type 0 where
  pub refusal : ℕ
  pub value : ℕ
  pub visits : ℕ

abbrev pub given_numbers : ℕ → ℕ → ℕ → GivenNumbers
given_numbers n x k = record { refusal = n; value = x; visits = k }

-- a refused call leaves value and visits as they were
abbrev pub numbers_by : Evaluated → ℕ → ℕ → GivenNumbers
numbers_by (Refused n) x k = given_numbers n x k
numbers_by (Value y m) x k = given_numbers 0 y m

abbrev pub host_evaluation : List ℕ → ℕ → List ℕ → List ℕ → ℕ → ℕ → ℕ → GivenNumbers
host_evaluation ws lines vs ms asked x k = numbers_by (evaluated ws lines vs ms asked) x k

-- ---- a line's address

-- whether there is one, and the address
pub record GivenAddress : Type 0 where
  pub there : ℕ
  pub address : ℕ

abbrev pub given_address : ℕ → ℕ → GivenAddress
given_address n a = record { there = n; address = a }

-- where there is none, the address is left as it was
abbrev pub address_numbers : Option ℕ → ℕ → GivenAddress
address_numbers (Some a) before = given_address 1 a
address_numbers None before = given_address 0 before

abbrev pub host_address : List ℕ → ℕ → ℕ → ℕ → GivenAddress
host_address ws lines place before = address_numbers (address_at ws lines place) before
