-- Many calls in one: each by `lowering`, from what the one before it left, up to the first that is refused.
use Rattle.std.specs.Prelude.{ℕ, ◌+◌, ◌/◌, cond, true, false, List, [], ◌∷◌, eqb, ltb, length, get_or, Option, Some, None}
use Rattle.btor2_list.specs.Records.{records_in}
use Rattle.refusals.specs.declared.Refusal.{Refusal}
use Rattle.refusals.specs.Refusal.{refusal_number}
use Rattle.state.specs.declared.State.{State}
use Rattle.lowering.specs.declared.LowerCall.{LowerCall}
use Rattle.lowering.specs.Lowering.{Lent, lowering}
use Rattle.state.specs.Words.{state_words, state_in, with_state}

-- ---- a call is seven words: address, kind, rd, rs1, rs2, imm, flag

abbrev pub call_words : ℕ
call_words = 7

abbrev pub call_in : List ℕ → LowerCall
call_in ws = record {
  instruction = record { kind = get_or ws 1 0; rd = get_or ws 2 0; rs1 = get_or ws 3 0; rs2 = get_or ws 4 0; imm = get_or ws 5 0 };
  address = get_or ws 0 0;
  flag = record { 0 = get_or ws 6 0 };
}

-- the first n calls of words
abbrev pub calls_in : ℕ → List ℕ → List LowerCall
calls_in n ws = records_in call_words call_in n ws

-- ---- one after the other

-- the number of the refusal that stopped them, 0 where none did
abbrev pub stopped_with : Option Refusal → ℕ
stopped_with None = 0
stopped_with (Some r) = refusal_number r

-- what they give: how many were accepted, the refusal of the next one or 0, the state, and the lent lists
pub record AnswerAll : Type 0 where
  pub done : ℕ
  pub refusal : ℕ
  pub state : State
  pub lent : Lent

abbrev pub answer_all : ℕ → ℕ → State → Lent → AnswerAll
answer_all done n st l = record { done = done; refusal = n; state = st; lent = l }

-- after `done` calls that were accepted
unfoldable pub lowering_on : ℕ → Lent → State → List LowerCall → AnswerAll
lowering_on done l st [] = answer_all done 0 st l
lowering_on done l st (c ∷ cs) =
    let a = lowering l st c.instruction c.address c.flag in
    elim (eqb a.lowered.refusal 0) [
      | true ↦ lowering_on (done + 1) a.lent a.lowered.state cs
      | false ↦ answer_all done a.lowered.refusal a.lowered.state a.lent
    ]

-- the calls in words; those that do not fill a call at the end are not looked at
unfoldable pub lowering_all : Lent → State → List ℕ → AnswerAll
lowering_all l st ws = lowering_on 0 l st (calls_in (length ws / call_words) ws)

-- ---- over the state's words

pub record GivenAll : Type 0 where
  pub done : ℕ
  pub refusal : ℕ
  pub lent : Lent
  pub state : List ℕ

abbrev pub given_all : ℕ → ℕ → Lent → List ℕ → GivenAll
given_all done n l ws = record { done = done; refusal = n; lent = l; state = ws }

abbrev pub all_by : List ℕ → AnswerAll → GivenAll
all_by ws a = given_all a.done a.refusal a.lent (with_state ws a.state)

-- 9 as for one call; else what the lowering of all calls from the state in these words gives
unfoldable pub lowering_all_words : Lent → List ℕ → List ℕ → GivenAll
lowering_all_words l ws calls = cond (ltb (length ws) state_words) (given_all 0 9 l ws) (all_by ws (lowering_all l (state_in ws) calls))
