-- What the code of a join gives over the state's words, as the definition has it.
use Rattle.std.specs.Prelude.{ℕ, List, Result, Ok, Err}
use Rattle.refusals.specs.declared.Refusal.{Refusal}
use Rattle.refusals.specs.Refusal.{refusal_number}
use Rattle.join.specs.Refusal.{JoinLent, JoinInput}
use Rattle.join.specs.Words.{GivenJoin, given_join}
use Rattle.join_calls.specs.declared.JoinedWords.{JoinedWords}

-- with the lent lists and the words as it leaves them: where it is refused, the flow and the count of sequentials are those it was given
abbrev pub answered_words : ℕ → JoinInput → Result JoinedWords Refusal → JoinLent → List ℕ → GivenJoin
answered_words used g (Ok j) l ws = given_join 0 j.flow.0 j.sequentials l ws
answered_words used g (Err r) l ws = given_join (refusal_number r) g.asked.flow.0 used l ws
