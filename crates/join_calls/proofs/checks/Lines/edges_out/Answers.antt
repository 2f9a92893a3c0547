-- A search through the edges, read from their chunks. Assumes nothing.
use Rattle.std.proofs.Common.{rules}
use Rattle.join.specs.Refusal.{edge_out}
use Rattle.join_calls.proofs.InChunks.{edges_yield, any_from}
use Rattle.join_calls.proofs.checks.Lines.edges_out.Goals as goal

pub returns : goal.returns
returns c =
    any_from (edge_out c.args.self.list.now c.args.self.count) _ _ _ c.any.ensures.ran (edges_yield c.chunks_exact.ensures.size c.chunks_exact.ensures.rest) (λ x b q k. search rules)
