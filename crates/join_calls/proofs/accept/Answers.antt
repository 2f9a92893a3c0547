-- The edges, then the dispatches; what is lent holds what the builder and the areas leave. Assumes nothing.
use Rattle.std.proofs.Common.{rules, ◌≡◌, ℕ, List, refl}
use Rattle.builder.specs.declared.Tally.{Tally}
use Rattle.join.specs.Code.{lists_given}
use Rattle.join.specs.Refusal.{join_lent}
use Rattle.join.specs.Join.{JoinAnswer, join_answer, held_after}
use Rattle.join.specs.declared.JoinHeld.{JoinHeld}
use Rattle.join_calls.proofs.Settled.{settles}
use Rattle.join_calls.proofs.accept.Goals as goal

left_by : (h : JoinHeld) (flow named listed : ℕ) (t t' : Tally) (ws ws' names names' places places' : List ℕ) {x : JoinAnswer} → t ≡ t' → ws ≡ ws' → names ≡ names' → places ≡ places'
    → join_answer 0 flow (held_after h t' named listed) (join_lent ws' names' places') ≡ x → join_answer 0 flow (held_after h t named listed) (join_lent ws names places) ≡ x
left_by h flow named listed t t' ws ws' names names' places places' p q r s e = rw (p, q, r, s) e

pub returns : goal.returns
returns c =
    let a = c.args in
    let l = join_lent a.list.now a.names.now a.sequentials.now in
    left_by a.held _ _ _ _ _ _ c.join_dispatches-flow.new.b.list.now _ c.join_edges-joined.new.areas.names.now _ c.join_edges-joined.new.areas.sequentials.now c.tally.ensures (search rules) (search rules) (search rules)
    (settles l a.held (lists_given a.given.now) c.requires.exact
    (record { list = c.new-b.ensures.list; tally = c.new-b.ensures.tally; names = refl; named = refl; sequentials = refl; listed = refl })
    c.join_edges-joined.ensures c.join_dispatches-flow.ensures)
