-- The rest of the edges after what is done. Assumes nothing.
use Rattle.std.proofs.Common.{rules, ◌≡◌, ◌∷◌}
use Rattle.std.specs.Slice.Iter.{chunks_exact_rest}
use Rattle.join.specs.Program.{from_edge}
use Rattle.join_calls.specs.Records.{edge_record, all_edges}
use Rattle.join_calls.proofs.Going.{begins, one_of, goes, ends}
use Rattle.join_calls.proofs.InChunks.{edges_next, edges_none}
use Rattle.join_calls.proofs.lines.join_edges.Goals as goal

pub loop-words-init : goal.loop-words-init
loop-words-init c = (search rules, search rules, rw (c.into_iter-words-iterator.ensures.into_iter_gives, c.chunks_exact-words-items.ensures.rest) (begins _ _ _ _ _ _ _))

pub from_edge-flow-requires : goal.from_edge-flow-requires
from_edge-flow-requires c =
    let taken : all_edges (chunks_exact_rest c.loop-words.words-iterator) ≡ edge_record c.edge_in-edge.result ∷ all_edges (chunks_exact_rest c.next.new.self) =
    edges_next c.loop-words.words-iterator c.next.new.self c.in-Some.words (edge_record c.edge_in-edge.result) c.edge_in-edge.ensures c.loop-words.invariant.1 c.in-Some.ensures.steps in
    one_of _ _ _ (rw taken at c.loop-words.invariant.2) c.requires

pub loop-words-preserved : goal.loop-words-preserved
unfolding from_edge
loop-words-preserved c =
    let taken : all_edges (chunks_exact_rest c.loop-words.words-iterator) ≡ edge_record c.edge_in-edge.result ∷ all_edges (chunks_exact_rest c.next.new.self) =
    edges_next c.loop-words.words-iterator c.next.new.self c.in-Some.words (edge_record c.edge_in-edge.result) c.edge_in-edge.ensures c.loop-words.invariant.1 c.in-Some.ensures.steps in
    (search rules, search rules, goes _ _ _ (rw c.find_flag-flag.ensures at c.from_edge-flow.ensures) (rw taken at c.loop-words.invariant.2))

pub returns : goal.returns
returns c = ends _ _ _ (rw (edges_none c.loop-words.words-iterator c.next.new.self c.loop-words.invariant.1 c.in-None.ensures.steps) at c.loop-words.invariant.2)
