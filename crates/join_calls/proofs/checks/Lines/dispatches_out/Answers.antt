-- A search through the dispatches, read from their chunks. Assumes nothing.
use Rattle.std.proofs.Common.{rules}
use Rattle.join.specs.Refusal.{dispatch_out}
use Rattle.join_calls.proofs.InChunks.{dispatches_yield, any_from}
use Rattle.join_calls.proofs.checks.Lines.dispatches_out.Goals as goal

pub returns : goal.returns
returns c =
    any_from (dispatch_out c.args.self.list.now c.args.self.count) _ _ _ c.any.ensures.ran (dispatches_yield c.chunks_exact.ensures.size c.chunks_exact.ensures.rest) (λ x b q k. search rules)
