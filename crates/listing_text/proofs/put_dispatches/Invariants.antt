-- The records so far are put. Assumes nothing.
use Rattle.std.proofs.Common.{length}
use Rattle.edges.specs.Edges.{dispatch_stride}
use Rattle.text.specs.Put.{Put}
use Rattle.listing_text.specs.Remarks.{dispatches_text}
use Rattle.listing_text.proofs.Records.{Passed}
use Rattle.listing_text.proofs.put_dispatches.Given as goal

abbrev pub invariant-loop-record : goal.invariant-loop-record
invariant-loop-record l = record {
  passed : Passed dispatch_stride l.count l.records (length l.yielded) l.record-iterator;
  put : Put l.initial.out l.at (dispatches_text l.records (length l.yielded)) l.out l.p;
}
