-- A search through the edges, read from their chunks. Assumes nothing.
use Rattle.std.proofs.Common.{rules}
use Rattle.join.specs.Given.{flag_for}
use Rattle.join.specs.Refusal.{unflagged}
use Rattle.join_calls.specs.Records.{all_flags}
use Rattle.join_calls.proofs.InChunks.{edges_yield, any_from}
use Rattle.join_calls.proofs.checks.Lines.edges_unflagged.Goals as goal

pub returns : goal.returns
returns c =
    let a = c.args in
    any_from (unflagged a.self.list.now a.self.count (flag_for (all_flags a.flags.now))) _ _ _ c.any.ensures.ran (edges_yield c.chunks_exact.ensures.size c.chunks_exact.ensures.rest) (λ x b q k. search rules)
