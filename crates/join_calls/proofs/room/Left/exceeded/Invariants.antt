-- What is left of the room exceeds with what is left of the edges where the whole room does with all of them. Assumes nothing.
use Rattle.std.proofs.Common.{ℕ, ◌≡◌, ◌/◌, Bool, eqb, length}
use Rattle.std.specs.Slice.Iter.{chunks_exact_rest, chunks_exact_size}
use Rattle.edges.specs.Edges.{edge_stride, dispatch_stride}
use Rattle.join.specs.Given.{flag_for}
use Rattle.join_calls.specs.Records.{all_edges, all_flags}
use Rattle.join_calls.specs.Room.{exceeding}
use Rattle.join_calls.proofs.room.Left.exceeded.Given as goal

abbrev pub invariant-loop-words : goal.invariant-loop-words
invariant-loop-words l =
    let f : ℕ → Bool = λ a. eqb (flag_for (all_flags l.given.flags.now) a) l.zero.0 in
    let n : ℕ = length l.given.dispatches.now / dispatch_stride in
    ((goal.iterator-loop-words).can_next l.words-iterator × (goal.iterator-loop-words).is_finite l.words-iterator)
    × (chunks_exact_size l.words-iterator ≡ edge_stride)
    × (exceeding f l.left (all_edges (chunks_exact_rest l.words-iterator)) n ≡ exceeding f l.initial.left (all_edges l.given.edges.now) n)
