-- As many lines of the start as were passed are put. Assumes nothing.
use Rattle.std.proofs.Common.{◌≡◌, ◌≤◌, length, take}
use lib.Seq.{sets}
use Rattle.btor2_list.specs.Record.{capacity}
use Rattle.listing_start.specs.Start.{first_nid, start_lines, start_ops, records}
use Rattle.listing_start.proofs.put_start.Given as goal

abbrev pub invariant-loop-k : goal.invariant-loop-k
invariant-loop-k l = record {
  room : start_lines ≤ capacity (length l.initial.list);
  put : l.list ≡ sets l.initial.list 0 (records first_nid (take l.k start_ops));
}
