-- The records that are left give what all do. Assumes nothing.
use Rattle.std.proofs.Common.{◌≡◌}
use Rattle.std.specs.Slice.Iter.{chunks_exact_rest, chunks_exact_size}
use Rattle.evaluation.specs.Given.{value_stride, given_value}
use Rattle.evaluation_calls.proofs.given_records.first_value.Given as goal

abbrev pub invariant-loop-record : goal.invariant-loop-record
invariant-loop-record l =
    (goal.iterator-loop-record).can_next l.record-iterator × (goal.iterator-loop-record).is_finite l.record-iterator
    × (chunks_exact_size l.record-iterator ≡ value_stride) × (given_value (chunks_exact_rest l.record-iterator) l.place.0 ≡ given_value l.values l.place.0)
