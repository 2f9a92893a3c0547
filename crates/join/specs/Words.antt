-- A join over the state's words.
use Rattle.std.specs.Prelude.{ℕ, cond, List, ltb, length}
use Rattle.state.specs.Words.{state_words, state_in, with_state}
use Rattle.join.specs.Refusal.{JoinLent, JoinInput}
use Rattle.join.specs.Join.{JoinAnswer, joining}

-- what the host is given: the number of the refusal, the flow, how many sequentials there are, the lent lists and the state's words
pub record GivenJoin : Type 0 where
  pub refusal : ℕ
  pub flow : ℕ
  pub sequentials : ℕ
  pub lent : JoinLent
  pub state : List ℕ

abbrev pub given_join : ℕ → ℕ → ℕ → JoinLent → List ℕ → GivenJoin
given_join n flow sequentials l ws = record { refusal = n; flow = flow; sequentials = sequentials; lent = l; state = ws }

abbrev pub join_by : List ℕ → JoinAnswer → GivenJoin
join_by ws a = given_join a.refusal a.flow a.held.sequentials a.lent (with_state ws a.held.state)

-- 9 where there is no room for the counts themselves, as at a lowering; else what the join with the state in these words gives
unfoldable pub joining_words : JoinLent → List ℕ → ℕ → JoinInput → GivenJoin
joining_words l ws sequentials g =
    cond (ltb (length ws) state_words) (given_join 9 g.asked.flow.0 sequentials l ws)
    (join_by ws (joining l (record { state = state_in ws; sequentials = sequentials }) g))
