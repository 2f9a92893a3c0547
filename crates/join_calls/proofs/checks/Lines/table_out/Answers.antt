-- A search through the entries of the table, read from their chunks. Assumes nothing.
use Rattle.std.proofs.Common.{rules}
use Rattle.join.specs.Refusal.{entry_out}
use Rattle.join_calls.proofs.InChunks.{flags_yield, any_from}
use Rattle.join_calls.proofs.checks.Lines.table_out.Goals as goal

pub returns : goal.returns
returns c =
    any_from (entry_out c.args.self.list.now c.args.self.count) _ _ _ c.any.ensures.ran (flags_yield c.chunks_exact.ensures.size c.chunks_exact.ensures.rest) (λ x b q k. search rules)
