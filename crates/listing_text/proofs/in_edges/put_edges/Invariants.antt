-- The records so far are put. Assumes nothing.
use Rattle.std.proofs.Common.{length}
use Rattle.edges.specs.Edges.{edge_stride}
use Rattle.line_text.specs.Line.{nodes}
use Rattle.text.specs.Put.{Put}
use Rattle.listing_text.specs.Remarks.{edges_text}
use Rattle.listing_text.proofs.Records.{Passed}
use Rattle.listing_text.proofs.in_edges.put_edges.Given as goal

abbrev pub invariant-loop-record : goal.invariant-loop-record
invariant-loop-record l = record {
  passed : Passed edge_stride l.count l.records (length l.yielded) l.record-iterator;
  put : Put l.initial.out l.at (edges_text (nodes l.list l.lines) l.records (length l.yielded)) l.out l.p;
}
