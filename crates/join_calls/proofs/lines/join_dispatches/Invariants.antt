-- The rest of the dispatches after what is done. Assumes nothing.
use Rattle.std.proofs.Common.{◌≡◌}
use Rattle.std.specs.Slice.Iter.{chunks_exact_rest, chunks_exact_size}
use Rattle.edges.specs.Edges.{dispatch_stride}
use Rattle.state.specs.Roles.{register_node}
use Rattle.join.specs.Given.{dynamic_for}
use Rattle.join.specs.Code.{bit_places}
use Rattle.join_calls.specs.Records.{all_dispatches}
use Rattle.join_calls.proofs.Going.{Dispatching}
use Rattle.join_calls.proofs.lines.join_dispatches.Given as goal

abbrev pub invariant-loop-words : goal.invariant-loop-words
invariant-loop-words l = ((goal.iterator-loop-words).can_next l.words-iterator × (goal.iterator-loop-words).is_finite l.words-iterator)
    × (chunks_exact_size l.words-iterator ≡ dispatch_stride)
    × Dispatching (bit_places l.bits) (λ n. (register_node l.roles n).0) (dynamic_for l.given.dynamics.now) l.b l.joined.0 (all_dispatches (chunks_exact_rest l.words-iterator)) l.initial.b l.initial.joined.0 (all_dispatches l.given.dispatches.now)
