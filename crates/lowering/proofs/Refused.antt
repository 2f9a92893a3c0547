-- A refused call leaves the state as it was. Assumes nothing.
use Prim.Native.Nat.{ℕ}
use mathlib.Core.Path.{◌≡◌, refl}
use mathlib.Core.Bool.{Bool, true, false, cond}
use lib.Dec.{eqb}
use Rattle.btor2.specs.declared.NodeRef.{NodeRef}
use Rattle.builder.specs.Append.{run_for}
use Rattle.riscv.specs.declared.Instruction.{Instruction}
use Rattle.state.specs.declared.State.{State}
use Rattle.lowering_refusals.specs.Refusal.{refusal_given}
use Rattle.lowering.specs.Lowering.{Lent, Answer, room_in, program_of, settled, refused, lowering_given}

kept_by : (b : Bool) (a : Answer) (n : ℕ) (l : Lent) (st : State) → a.lowered.refusal ≡ 0 → ((cond b a (refused n l st)).lowered.refusal ≡ 0 → ⊥)
    → (cond b a (refused n l st)).lowered.state ≡ st
kept_by true a n l st z h = absurd (h z)
kept_by false a n l st z h = refl

pub refused_kept : (fits : Bool) (l : Lent) (st : State) (i : Instruction) (address : ℕ) (flag : NodeRef) → ((lowering_given fits l st i address flag).lowered.refusal ≡ 0 → ⊥)
    → (lowering_given fits l st i address flag).lowered.state ≡ st
unfolding lowering_given settled
refused_kept fits l st i address flag =
    kept_by (eqb (refusal_given fits l.list (room_in l) st.tally st.counts i address flag.0) 0) (settled l st i address (run_for address l.list st.tally (program_of st i address flag)))
    (refusal_given fits l.list (room_in l) st.tally st.counts i address flag.0) l st refl
