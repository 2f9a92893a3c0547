-- What calls leave as it was: a refused one everything, and every one the given nodes. Assumes nothing.
use Prim.Native.Nat.{ℕ, ◌+◌, ◌<◌}
use mathlib.Core.Path.{◌≡◌, refl, ◌∙◌, ap, subst}
use mathlib.Core.Bool.{Bool, true, false, cond, not}
use mathlib.Core.List.{[], ◌∷◌}
use native.Mathlib.Omega.{arith}
use borrow.Author.Tests.{eq-eqb, ltb-false}
use lib.Dec.{T, ltb}
use Rattle.btor2.specs.declared.NodeRef.{NodeRef}
use Rattle.builder.specs.Append.{run_for}
use Rattle.riscv.specs.declared.Instruction.{Instruction}
use Rattle.state.specs.Roles.{role, register_node, with_flows}
use Rattle.state.specs.declared.State.{State}
use Rattle.lowering_refusals.specs.Refusal.{refusal_of}
use Rattle.lowering.specs.Lowering.{Lent, Answer, room_in, program_of, settled, lowering_given, lowering}
use Rattle.lowering_laws.proofs.OneCall.{when_refused}
use Rattle.demand.specs.Calls.{Held, Call, lower, join, lent_for, state_for, answer_to, step, run}
use Rattle.demand.specs.Laws.{RefusedLeaves, NodesKept}
use Rattle.roles_kept.proofs.Call as K
use Rattle.roles_kept.proofs.RoleSets.{outcome_node, flows_there}
use Rattle.demand.proofs.Step.{call, accepted_is, by_step}
use Rattle.demand.proofs.JoinStep.{roles_join}

pub refused_leaves : RefusedLeaves
unfolding answer_to
refused_leaves h c q =
    let e = when_refused (lent_for h c) (state_for h c) c.call.instruction c.call.address c.call.flag (λ z. subst (λ t. T (not t)) (accepted_is h c ∙ eq-eqb (K.number (call h c)) 0 z) q) in
    (ap (λ (a : Answer). a.lent) e, ap (λ (a : Answer). a.lowered.state) e)

-- an accepted call sets flows alone
node_lowering : (l : Lent) (st : State) (i : Instruction) (address : ℕ) (flag : NodeRef) → refusal_of l.list (room_in l) st i address flag.0 ≡ 0
    → (j : ℕ) → j < 39 → role (lowering l st i address flag).lowered.state.roles j ≡ role st.roles j
unfolding lowering_given settled
node_lowering l st i address flag e j h =
    let r = run_for address l.list st.tally (program_of st i address flag) in
    rw e (outcome_node (with_flows st.roles r.value.flows) i.rd r.value.outcome j h ∙ flows_there st.roles r.value.flows j (omega arith))

pub node_step : (h : Held) (c : Call) (j : ℕ) → j < 39 → role (step h c).state.roles j ≡ role h.state.roles j
unfolding answer_to state_for
node_step h (lower c) j l =
    by_step h c (λ b x. role x.state.roles j ≡ role h.state.roles j)
    (λ q. node_lowering (lent_for h c) (state_for h c) c.call.instruction c.call.address c.call.flag q j l)
    refl
node_step h (join c) j l = ap (λ rs. role rs j) (roles_join h c)

pub nodes_kept : NodesKept
unfolding run
nodes_kept h [] j l = refl
nodes_kept h (c ∷ cs) j l = nodes_kept (step h c) cs j l ∙ node_step h c j l

-- so the node of a register is
pub register_node_step : (h : Held) (c : Call) (r : ℕ) → register_node (step h c).state.roles r ≡ register_node h.state.roles r
register_node_step h c r = go (ltb 31 r) refl
  where
    go : (t : Bool) → ltb 31 r ≡ t → role (step h c).state.roles (cond t 7 (7 + r)) ≡ role h.state.roles (cond t 7 (7 + r))
    go true e = node_step h c 7 (omega arith)
    go false e = node_step h c (7 + r) (omega (arith, ltb-false 31 r e))
