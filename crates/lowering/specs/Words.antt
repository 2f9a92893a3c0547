-- A call over the state's words, and the law that a chain of such calls rests on.
use Rattle.std.specs.Prelude.{ℕ, ◌≡◌, cond, List, ltb, length}
use Rattle.btor2.specs.declared.NodeRef.{NodeRef}
use Rattle.riscv.specs.declared.Instruction.{Instruction}
use Rattle.state.specs.Roles.{role_count}
use Rattle.state.specs.declared.State.{State}
use Rattle.state.specs.Words.{state_words, state_in, with_state}
use Rattle.lowering.specs.Lowering.{Lent, Answer, lowering}

-- what the host is given: the number of the refusal, the lent lists and the state's words
pub record Given : Type 0 where
  pub refusal : ℕ
  pub lent : Lent
  pub state : List ℕ

abbrev pub given : ℕ → Lent → List ℕ → Given
given n l ws = record { refusal = n; lent = l; state = ws }

abbrev pub given_by : List ℕ → Answer → Given
given_by ws a = given a.lowered.refusal a.lent (with_state ws a.lowered.state)

-- 9: "a count above its storage", where there is no room for the counts themselves; else what the lowering of the state in these words gives
unfoldable pub lowering_words : Lent → List ℕ → Instruction → ℕ → NodeRef → Given
lowering_words l ws i address flag = cond (ltb (length ws) state_words) (given 9 l ws) (given_by ws (lowering l (state_in ws) i address flag))

-- the law: a state that was put into words is read from them; that there are 79 roles is what the code's type of them gives
abbrev pub ReadBack : Type 0
ReadBack = (ws : List ℕ) (s : State) → length s.roles ≡ role_count → state_in (with_state ws s) ≡ s
