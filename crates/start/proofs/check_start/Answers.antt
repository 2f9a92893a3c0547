-- 9 of all counts, the number of the list, and 13. Assumes nothing.
use Rattle.std.specs.Prelude.{Result, Ok, Err, IsErrAnd}
use Rattle.refusals.specs.declared.Refusal.{Refusal}
use Rattle.refusals.specs.Refusal.{refusal_number, refused_with}
use Prim.Native.Nat.{ℕ}
use mathlib.Core.Path.{◌≡◌, refl, sym, ap, ◌∙◌}
use mathlib.Core.Bool.{Bool, false, cond, not}
use mathlib.Core.List.{List}
use borrow.Author.Tests.{ne_eqb}
use lib.Dec.{eqb}
use lib.ListN.{length}
use Rattle.btor2_list.specs.Limits.{most_start_nid}
use Rattle.btor2_list.specs.Record.{capacity}
use Rattle.state.specs.declared.State.{State}
use Rattle.state.specs.declared.room.Room.{Room}
use Rattle.state.specs.Room.{room_of, counts_out}
use Rattle.state.specs.RolesFit.{roles_fit}
use Rattle.start.specs.Start.{list_refusal, start_refusal}
use Rattle.refusals.proofs.Numbered.{numbered}
use Rattle.start.proofs.ByList.{by_list}
use Rattle.start.proofs.check_start.Goals as goal

-- 9, of the room that was computed
is9 : (room : Room) (st : State) {r : Room} {b : Bool} → r ≡ room → b ≡ counts_out most_start_nid r st.tally st.counts → counts_out most_start_nid room st.tally st.counts ≡ b
is9 room st q e = sym (rw q at e)

-- past it, the number of the list, or 13
past9 : (ws : List ℕ) (host : ℕ) (room : Room) (st : State) {n : ℕ} → room.lines ≡ capacity (length ws) → counts_out most_start_nid room st.tally st.counts ≡ false
    → n ≡ list_refusal ws st.tally.lines st.tally.nid host room.names → start_refusal ws host room st ≡ cond (eqb n 0) (cond (not (roles_fit ws st.tally.lines 0 st.roles)) 13 0) n
past9 ws host room st lent in9 e = rw e (by_list ws host room st lent in9)

-- `?` passes a refusal on
passed_on : {A : Type 0} (r : Result A Refusal) (refusal : Refusal) → IsErrAnd r (λ e. e ≡ refusal) → refused_with r ≡ refusal_number refusal
passed_on (Ok x) refusal h = absurd h
passed_on (Err e) refusal h = ap refusal_number h

pub returns-then-counts_out : goal.returns-then-counts_out
unfolding start_refusal
returns-then-counts_out c =
    let a = c.args in
    let room = room_of (length a.list.now) (length a.names.now) (length a.edges.now) (length a.dispatches.now) (length a.bads.now) in
    let nine = is9 room a.state c.room_of-room.ensures c.counts_out.ensures in
    rw (nine ∙ c.if-counts_out.true)

pub returns-in_err-check_list : goal.returns-in_err-check_list
unfolding room_of
returns-in_err-check_list c =
    let a = c.args in
    let room = room_of (length a.list.now) (length a.names.now) (length a.edges.now) (length a.dispatches.now) (length a.bads.now) in
    let nine = is9 room a.state c.room_of-room.ensures c.counts_out.ensures in
    let past = past9 a.list.now (length a.host.now) room a.state refl (nine ∙ c.if-counts_out.false) c.check_list.ensures in
    let refusal = c.in_err-check_list.field-0.0 in
    passed_on _ refusal c.from_residual.ensures.1 ∙ sym (past ∙ rw (c.in_err-check_list.was, ne_eqb _ _ (numbered refusal)))

pub returns-then-roles_out : goal.returns-then-roles_out
unfolding room_of
returns-then-roles_out c =
    let a = c.args in
    let room = room_of (length a.list.now) (length a.names.now) (length a.edges.now) (length a.dispatches.now) (length a.bads.now) in
    let nine = is9 room a.state c.room_of-room.ensures c.counts_out.ensures in
    let past = past9 a.list.now (length a.host.now) room a.state refl (nine ∙ c.if-counts_out.false) c.check_list.ensures in
    rw (past, c.in_ok-check_list.was, sym c.roles_out.ensures ∙ c.if-roles_out.true)

pub returns : goal.returns
unfolding room_of
returns c =
    let a = c.args in
    let room = room_of (length a.list.now) (length a.names.now) (length a.edges.now) (length a.dispatches.now) (length a.bads.now) in
    let nine = is9 room a.state c.room_of-room.ensures c.counts_out.ensures in
    let past = past9 a.list.now (length a.host.now) room a.state refl (nine ∙ c.if-counts_out.false) c.check_list.ensures in
    rw (past, c.in_ok-check_list.was, sym c.roles_out.ensures ∙ c.if-roles_out.false)
