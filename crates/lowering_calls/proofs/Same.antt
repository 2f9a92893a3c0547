-- The calls over words are the calls by `lowering`: the roles fit after each accepted one, and words that a state is put into hold it.
-- Assumes nothing.
use Prim.Native.Nat.{ℕ, ◌+◌, ◌/◌, ◌≤◌}
use mathlib.Core.Path.{◌≡◌, refl, sym, ap, ◌∙◌}
use mathlib.Core.Bool.{Bool, true, false}
use mathlib.Core.List.{List, [], ◌∷◌}
use borrow.Author.Tests.{eqb-true, le-ltb}
use lib.Dec.{eqb}
use lib.ListN.{length}
use Rattle.state.specs.Roles.{role_count}
use Rattle.state.specs.RolesFit.{roles_fit}
use Rattle.state.specs.declared.State.{State}
use Rattle.lowering_refusals.specs.Refusal.{refusal_of}
use Rattle.lowering.specs.Lowering.{Lent, Answer, room_in, lowering}
use Rattle.state.specs.Words.{state_words, state_in, with_state}
use Rattle.lowering.specs.Words.{Given, given_by}
use Rattle.lowering.specs.declared.LowerCall.{LowerCall}
use Rattle.lowering.specs.All.{call_words, calls_in, AnswerAll, answer_all, lowering_on, lowering_all, GivenAll, given_all, all_by}
use Rattle.state.proofs.Words.{size_in, state_kept, put_again, put_length}
use Rattle.lowering.proofs.Words.{read_back}
use Rattle.roles_kept.proofs.Passed.{roles_in_lem}
use Rattle.roles_kept.proofs.Call.{called, refusal_is, roled_after, roles_keep}
use Rattle.lowering_calls.specs.Known.{known_words, words_on, words_all}

sized : (ws : List ℕ) → length (state_in ws).roles ≡ role_count
unfolding state_in
sized ws = size_in ws

-- ---- one call

abbrev pub Fits : Lent → State → Bool
Fits l st = roles_fit l.list st.tally.lines 0 st.roles

module _ (l : Lent) (st : State) (c : LowerCall) (size : length st.roles ≡ role_count) (accepted : (lowering l st c.instruction c.address c.flag).lowered.refusal ≡ 0) where
  none : refusal_of l.list (room_in l) st c.instruction c.address c.flag.0 ≡ 0
  none = sym (refusal_is l st c.instruction c.address c.flag) ∙ accepted

  pub size_on : length (lowering l st c.instruction c.address c.flag).lowered.state.roles ≡ role_count
  size_on = (roled_after (called l st c.instruction c.address c.flag) (record { size = size; passed = none })).size

  fits_on : Fits l st ≡ Fits (lowering l st c.instruction c.address c.flag).lent (lowering l st c.instruction c.address c.flag).lowered.state
  fits_on = roles_in_lem l.list (room_in l) st c.instruction c.address c.flag.0 none ∙ sym (roles_keep l st c.instruction c.address c.flag size accepted)

by_words : (fits : Bool) (l : Lent) (ws : List ℕ) (c : LowerCall) → state_words ≤ length ws → fits ≡ Fits l (state_in ws)
    → known_words fits l ws c.instruction c.address c.flag ≡ given_by ws (lowering l (state_in ws) c.instruction c.address c.flag)
unfolding known_words
by_words fits l ws c h e = rw (le-ltb (length ws) state_words h, e)

-- ---- all calls

abbrev then_words : Bool → ℕ → List LowerCall → Given → GivenAll
then_words fits done cs x = elim (eqb x.refusal 0) [ true ↦ words_on fits (done + 1) x.lent x.state cs | false ↦ given_all done x.refusal x.lent x.state ]

abbrev then_on : ℕ → List LowerCall → Answer → AnswerAll
then_on done cs a =
    elim (eqb a.lowered.refusal 0) [
      | true ↦ lowering_on (done + 1) a.lent a.lowered.state cs
      | false ↦ answer_all done a.lowered.refusal a.lowered.state a.lent
    ]

abbrev Same : Bool → ℕ → Lent → List ℕ → List LowerCall → Type 0
Same fits done l ws cs = state_words ≤ length ws → fits ≡ Fits l (state_in ws) → words_on fits done l ws cs ≡ all_by ws (lowering_on done l (state_in ws) cs)

-- after one call, from what is left
after : (fits : Bool) (done : ℕ) (l : Lent) (ws : List ℕ) (c : LowerCall) (cs : List LowerCall) → ((l' : Lent) (ws' : List ℕ) → Same fits (done + 1) l' ws' cs) → state_words ≤ length ws → fits ≡ Fits l (state_in ws)
    → then_words fits done cs (given_by ws (lowering l (state_in ws) c.instruction c.address c.flag)) ≡ all_by ws (then_on done cs (lowering l (state_in ws) c.instruction c.address c.flag))
after fits done l ws c cs rest h e = go (eqb a.lowered.refusal 0) refl
  where
    a : Answer
    a = lowering l (state_in ws) c.instruction c.address c.flag

    go : (b : Bool) → eqb a.lowered.refusal 0 ≡ b
        → (elim b [ true ↦ words_on fits (done + 1) a.lent (with_state ws a.lowered.state) cs | false ↦ given_all done a.lowered.refusal a.lent (with_state ws a.lowered.state) ])
        ≡ all_by ws (elim b [ true ↦ lowering_on (done + 1) a.lent a.lowered.state cs | false ↦ answer_all done a.lowered.refusal a.lowered.state a.lent ])
    go true q =
        let accepted : a.lowered.refusal ≡ 0 = eqb-true a.lowered.refusal 0 q in
        let size : length a.lowered.state.roles ≡ role_count = size_on l (state_in ws) c (sized ws) accepted in
        let put : List ℕ = with_state ws a.lowered.state in
        let read : state_in put ≡ a.lowered.state = read_back ws a.lowered.state size in
        let end : AnswerAll = lowering_on (done + 1) a.lent a.lowered.state cs in
        rest a.lent put (put_length ws a.lowered.state size) (e ∙ fits_on l (state_in ws) c (sized ws) accepted ∙ ap (Fits a.lent) (sym read))
        ∙ ap (λ (s : State). all_by put (lowering_on (done + 1) a.lent s cs)) read
        ∙ ap (given_all end.done end.refusal end.lent) (put_again ws a.lowered.state end.state size)
    go false q = refl

same_on : (cs : List LowerCall) (fits : Bool) (done : ℕ) (l : Lent) (ws : List ℕ) → Same fits done l ws cs
unfolding words_on lowering_on
same_on [] fits done l ws h e = ap (given_all done 0 l) (sym (state_kept ws h))
same_on (c ∷ cs) fits done l ws h e = ap (then_words fits done cs) (by_words fits l ws c h e) ∙ after fits done l ws c cs (λ l' ws'. same_on cs fits (done + 1) l' ws') h e

pub same_by_words : (l : Lent) (ws calls : List ℕ) → state_words ≤ length ws → words_all (Fits l (state_in ws)) l ws calls ≡ all_by ws (lowering_all l (state_in ws) calls)
unfolding words_all lowering_all
same_by_words l ws calls h = same_on (calls_in (length calls / call_words) calls) (Fits l (state_in ws)) 0 l ws h refl
