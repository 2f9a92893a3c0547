-- The record is put where the words hold it, and the tally counts it. Assumes nothing.
use Rattle.std.proofs.Common.{sym, ◌∙◌}
use Rattle.builder.specs.Append.{append_line}
use Rattle.builder.proofs.Builder.add_node.Goals as goal

pub returns-then-put-clause-run : goal.returns-then-put-clause-run
unfolding append_line
returns-then-put-clause-run c = rw (c.put.ensures.list, c.nids_taken-taken.ensures, sym c.put.ensures.stored ∙ c.if-put.true)

pub returns-else-put-clause-run : goal.returns-else-put-clause-run
unfolding append_line
returns-else-put-clause-run c = rw (c.put.ensures.list, sym c.put.ensures.stored ∙ c.if-put.false)
