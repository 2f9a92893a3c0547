-- An accepted join: its edges, then its dispatches, are its program. Assumes nothing.
use Prim.Native.Nat.{ℕ}
use mathlib.Core.Path.{◌≡◌, ap}
use mathlib.Core.List.{List, [], ◌∷◌}
use Rattle.builder.specs.Builds.{Builds}
use Rattle.builder.specs.Prog.{Run, exec}
use Rattle.builder.specs.declared.Builder.{Builder}
use Rattle.state.specs.Roles.{register_node}
use Rattle.join.specs.ControlFlow.{Bits}
use Rattle.join.specs.Listed.{Listed, append_listed}
use Rattle.join.proofs.Lists.{Quiet, none, on, lists, quiet_jalr, quiet_bind}
use Rattle.join.specs.declared.JoinHeld.{JoinHeld}
use Rattle.join.specs.Program.{Dispatch, names_of, nexts_of, join_edges, join_dispatches, join_address}
use Rattle.join.specs.Given.{dynamic_for, flag_for}
use Rattle.join.specs.Refusal.{JoinLent, join_lent, JoinInput, bits_in, kernel_in, join_program}
use Rattle.join.specs.Join.{JoinAnswer, join_answer, held_after, join_settled, join_store}
use Rattle.join_calls.specs.Records.{all_edges, all_dispatches, all_flags, Exact}
use Rattle.join_calls.specs.Steps.{Joins}
use Rattle.join_calls.specs.declared.areas.Areas.{Areas}
use Rattle.join_calls.proofs.Entry.{exact_edges, exact_dispatches, exact_flags}

quiet_dispatches : (b : Bits ℕ) (registers dynamics : ℕ → ℕ) (ds : List (Dispatch ℕ)) (flow : ℕ) → Quiet (join_dispatches b registers dynamics ds flow)
unfolding join_dispatches
quiet_dispatches b registers dynamics [] flow = none
quiet_dispatches b registers dynamics (x ∷ ds) flow =
    quiet_bind (quiet_jalr b (registers x.register) (dynamics x.register) x.address flow) (λ f. quiet_dispatches b registers dynamics ds f)

-- what an accepted call gives
abbrev given_by : JoinHeld → Builder → Areas → ℕ → JoinAnswer
given_by h b a flow = join_answer 0 flow (held_after h b.tally a.named a.listed) (join_lent b.list.now a.names.now a.sequentials.now)

-- a builder and areas that hold what is lent
pub record Holds (l : JoinLent) (h : JoinHeld) (b : Builder) (a : Areas) : Type 0 where
  pub list : b.list.now ≡ l.list
  pub tally : b.tally ≡ h.state.tally
  pub names : a.names.now ≡ l.names
  pub named : a.named ≡ h.state.counts.names
  pub sequentials : a.sequentials.now ≡ l.sequentials
  pub listed : a.listed ≡ h.sequentials

module _ (l : JoinLent) (h : JoinHeld) (g : JoinInput) (exact : Exact g) {b b1 b2 : Builder} {a a1 : Areas} {joined flow : ℕ} where
  -- edges that leave b1 and a1, then dispatches that leave b2
  pub settles : Holds l h b a
      → Joins b a (join_edges (bits_in h.state) (kernel_in g) (flag_for (all_flags g.flags)) a.named (all_edges g.edges) g.asked.flow.0) (names_of (all_edges g.edges)) (nexts_of (all_edges g.edges)) b1 a1 joined
      → Builds b1 (join_dispatches (bits_in h.state) (λ r. (register_node h.state.roles r).0) (dynamic_for g.dynamics) (all_dispatches g.dispatches) joined) b2 flow
      → given_by h b2 a1 flow ≡ join_settled l h g (exec append_listed (join_store l h) (join_program h.state g))
  unfolding join_settled join_program join_address
  settles s e d =
      let registers : ℕ → ℕ = λ r. (register_node h.state.roles r).0 in
      let ds = all_dispatches g.dispatches in
      let all = on (λ f. join_dispatches (bits_in h.state) registers (dynamic_for g.dynamics) ds f) e.lists (lists (quiet_dispatches (bits_in h.state) registers (dynamic_for g.dynamics) ds joined) d.is) in
      let is = rw (s.list, s.tally, s.sequentials, s.listed, s.named, exact_edges g exact, exact_dispatches g exact, exact_flags g exact) at all.is in
      rw (e.texts, e.named, s.names, s.named, exact_edges g exact) (ap (λ (r : Run Listed ℕ). join_settled l h g r) is)
