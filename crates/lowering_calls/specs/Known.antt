-- Calls over a state's words by the answer of the test of the roles, for private functions.
use Rattle.std.specs.Prelude.{ℕ, ◌+◌, ◌/◌, Bool, true, false, cond, List, [], ◌∷◌, eqb, ltb, length}
use Rattle.btor2.specs.declared.NodeRef.{NodeRef}
use Rattle.riscv.specs.declared.Instruction.{Instruction}
use Rattle.lowering.specs.Lowering.{Lent, lowering_given}
use Rattle.state.specs.Words.{state_words, state_in}
use Rattle.lowering.specs.Words.{Given, given, given_by}
use Rattle.lowering.specs.declared.LowerCall.{LowerCall}
use Rattle.lowering.specs.All.{call_words, calls_in, GivenAll, given_all}

-- ---- one call, and many, where it is known whether the roles fit

unfoldable pub known_words : Bool → Lent → List ℕ → Instruction → ℕ → NodeRef → Given
known_words fits l ws i address flag = cond (ltb (length ws) state_words) (given 9 l ws) (given_by ws (lowering_given fits l (state_in ws) i address flag))

unfoldable pub words_on : Bool → ℕ → Lent → List ℕ → List LowerCall → GivenAll
words_on fits done l ws [] = given_all done 0 l ws
words_on fits done l ws (c ∷ cs) =
    let g = known_words fits l ws c.instruction c.address c.flag in
    elim (eqb g.refusal 0) [
      | true ↦ words_on fits (done + 1) g.lent g.state cs
      | false ↦ given_all done g.refusal g.lent g.state
    ]

unfoldable pub words_all : Bool → Lent → List ℕ → List ℕ → GivenAll
words_all fits l ws calls = words_on fits 0 l ws (calls_in (length calls / call_words) calls)
