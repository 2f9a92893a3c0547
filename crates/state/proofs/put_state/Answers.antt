-- The tally and the counts, the flows, and the register's or the memory's. Assumes nothing.
use Prim.Native.Nat.{ℕ}
use mathlib.Core.Path.{◌≡◌, ◌∙◌, ap}
use mathlib.Core.List.{List}
use lib.ListN.{length, length-set}
use Rattle.btor2.specs.declared.NodeRef.{NodeRef}
use Rattle.models.specs.Places as P
use Rattle.models.specs.Code.{flows_of, outcome_of}
use Rattle.state.specs.Roles.{with_flows, with_outcome}
use borrow.Author.Tests.{le-ltb}
use Rattle.state.specs.Words.{state_words, roles_in, state_of}
use Rattle.state.specs.Put.{with_roles}
use Rattle.state.proofs.Words.{size_in}
use Rattle.state.proofs.Put.{roles_put}
use Rattle.state.proofs.put_state.Goals as goal

flows_size : (roles : List NodeRef) (f : P.Flows ℕ) → length (with_flows roles f) ≡ length roles
unfolding with_flows
flows_size roles f = simp length-set

pub returns : goal.returns
returns c =
    let a = c.args in
    let ws = a.words.now in
    let set-flows : List NodeRef → List NodeRef = λ roles. with_flows roles (flows_of a.flows) in
    let set-outcome : List NodeRef → List NodeRef = λ roles. with_outcome roles a.rd (outcome_of a.outcome) in
    rw (le-ltb _ state_words c.if-words-lt-STATE_WORDS.false)
    (c.put_outcome.ensures
    ∙ ap (λ e. with_roles e (set-outcome (roles_in e)))
    (c.put_flows.ensures ∙ ap (λ e. with_roles e (set-flows (roles_in e))) c.store_counts.ensures ∙ roles_put ws (state_of a.t a.c (roles_in ws)) set-flows (size_in ws))
    ∙ roles_put ws (state_of a.t a.c (set-flows (roles_in ws))) set-outcome (flows_size (roles_in ws) (flows_of a.flows) ∙ size_in ws))
