-- The rest of the edges after what is done. Assumes nothing.
use Rattle.std.proofs.Common.{◌≡◌}
use Rattle.std.specs.Slice.Iter.{chunks_exact_rest, chunks_exact_size}
use Rattle.edges.specs.Edges.{edge_stride}
use Rattle.join.specs.Given.{flag_for}
use Rattle.join.specs.Code.{bit_places}
use Rattle.join_calls.specs.Records.{all_edges, all_flags}
use Rattle.join_calls.specs.Steps.{kernel_of}
use Rattle.join_calls.proofs.Going.{Going}
use Rattle.join_calls.proofs.lines.join_edges.Given as goal

abbrev pub invariant-loop-words : goal.invariant-loop-words
invariant-loop-words l = ((goal.iterator-loop-words).can_next l.words-iterator × (goal.iterator-loop-words).is_finite l.words-iterator)
    × (chunks_exact_size l.words-iterator ≡ edge_stride)
    × Going (bit_places l.bits) (kernel_of l.given.asked) (flag_for (all_flags l.given.flags.now)) l.b l.areas l.flow.0 (all_edges (chunks_exact_rest l.words-iterator)) l.initial.b l.initial.areas l.initial.flow.0 (all_edges l.given.edges.now)
