-- Call by call: what is lent with each is what stands there. Assumes nothing.
use Prim.Native.Nat.{ℕ, zero, suc, ◌+◌}
use mathlib.Core.Path.{◌≡◌, refl, sym, ap, ap₂, ◌∙◌}
use mathlib.Core.Bool.{Bool, true, false}
use mathlib.Core.List.{List, [], ◌∷◌, ◌++◌}
use borrow.Author.Tests.{eq-eqb, ne_eqb, eqb-true, eqb-false}
use lib.Dec.{eqb}
use lib.ListN.{length, take, drop}
use Rattle.btor2_list.specs.Record.{words_for}
use Rattle.state.specs.declared.State.{State}
use Rattle.lowering_refusals.specs.Refusal.{refusal_of}
use Rattle.lowering.specs.Lowering.{Lent, lent, Answer, settled, room_in, lowering_given, lowering}
use Rattle.lowering.specs.declared.LowerCall.{LowerCall}
use Rattle.lowering.specs.All.{AnswerAll, answer_all, lowering_on}
use Rattle.lowering_laws.proofs.OneCall.{when_refused}
use Rattle.demand.specs.Calls.{Held, Call, lower, in_front, lent_for, state_for, answer_to, accepted, step, run}
use Rattle.demand_all.specs.Many.{held, request, requests, ManyAreRun}

pub front_self : (n : ℕ) (ws : List ℕ) → take (length ws) (take n ws) ++ drop (length (take n ws)) ws ≡ ws
front_self zero [] = refl
front_self zero (w ∷ ws) = refl
front_self (suc n) [] = refl
front_self (suc n) (w ∷ ws) = ap (λ l. w ∷ l) (front_self n ws)

module _ (l : Lent) (st : State) (c : LowerCall) where
  abbrev a : Answer
  a = lowering l st c.instruction c.address c.flag

  answer_is : answer_to (held l st) (request l st c) ≡ a
  unfolding answer_to lent_for state_for in_front
  answer_is = ap₂ (λ (ws ns : List ℕ). lowering (lent ws ns l.edges l.dispatches l.bads) st c.instruction c.address c.flag) (front_self (words_for st.tally.lines) l.list) (front_self st.counts.names l.names)

  step_is : a.lowered.refusal ≡ 0 → step (held l st) (lower (request l st c)) ≡ held a.lent a.lowered.state
  unfolding step accepted
  step_is e = rw (answer_is, eq-eqb a.lowered.refusal 0 e)

  -- a refused call changes nothing
  taken : refusal_of l.list (room_in l) st c.instruction c.address c.flag.0 ≡ 0 → a.lowered.refusal ≡ 0
  unfolding lowering_given settled
  taken e = rw (eq-eqb _ 0 e)

  pub refused_lent : (a.lowered.refusal ≡ 0 → ⊥) → a.lent ≡ l
  refused_lent h = ap (λ (b : Answer). b.lent) (when_refused l st c.instruction c.address c.flag (λ e. h (taken e)))

  refused_is : (a.lowered.refusal ≡ 0 → ⊥) → step (held l st) (lower (request l st c)) ≡ held a.lent a.lowered.state
  unfolding step accepted
  refused_is h = rw (answer_is, ne_eqb a.lowered.refusal 0 h) (ap (λ (b : Answer). held b.lent b.lowered.state) (sym (when_refused l st c.instruction c.address c.flag (λ e. h (taken e)))))

-- what is made of an answer
abbrev then : ℕ → List LowerCall → Answer → Bool → AnswerAll
then k cs b t = elim t [ true ↦ lowering_on (k + 1) b.lent b.lowered.state cs | false ↦ answer_all k b.lowered.refusal b.lowered.state b.lent ]

-- and the calls after it
abbrev next : List LowerCall → Answer → Bool → List Call
next cs b t = elim t [ true ↦ requests b.lent b.lowered.state cs | false ↦ [] ]

-- whatever the count of calls before
Left : ℕ → List LowerCall → Type 0
Left k cs = (l : Lent) (st : State) → run (held l st) (requests l st cs) ≡ held (lowering_on k l st cs).lent (lowering_on k l st cs).state

after : (c : LowerCall) (cs : List LowerCall) (k : ℕ) (l : Lent) (st : State) → Left (k + 1) cs → (t : Bool) → eqb (a l st c).lowered.refusal 0 ≡ t
    → run (step (held l st) (lower (request l st c))) (next cs (a l st c) t) ≡ held (then k cs (a l st c) t).lent (then k cs (a l st c) t).state
unfolding Left run
after c cs k l st rest true q =
    ap (λ (h : Held). run h (requests (a l st c).lent (a l st c).lowered.state cs)) (step_is l st c (eqb-true (a l st c).lowered.refusal 0 q))
    ∙ rest (a l st c).lent (a l st c).lowered.state
after c cs k l st rest false q = refused_is l st c (eqb-false (a l st c).lowered.refusal 0 q)

many : (cs : List LowerCall) (k : ℕ) → Left k cs
unfolding Left lowering_on requests run
many [] k l st = refl
many (c ∷ cs) k l st = after c cs k l st (many cs (k + 1)) (eqb (a l st c).lowered.refusal 0) refl

pub many_are_run : ManyAreRun
unfolding Left
many_are_run l st cs = many cs 0 l st
