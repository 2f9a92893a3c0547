-- The words of the records are put, and the core joins them. Assumes nothing.
use Rattle.std.proofs.Common.{ap, ◌∙◌}
use Rattle.edges.specs.InEdges.{edge_words}
use Rattle.join.specs.Code.{lists_lent}
use Rattle.join.specs.Join.{JoinAnswer}
use Rattle.join_entry.specs.Records.{with_words}
use Rattle.join_entry.proofs.Same.{same_answer, too_many, joins}
use Rattle.join_entry.proofs.join.Goals as goal

pub returns-then-input-count-clause-is : goal.returns-then-input-count-clause-is
returns-then-input-count-clause-is c =
    let g = c.args.input.now in
    too_many (lists_lent c.args.lent.now) c.args.held g.dispatches.now g.flags.now g.dynamics.now g.asked g.edges.now c.args.words.now c.if-input-count.true

pub returns-clause-is : goal.returns-clause-is
returns-clause-is c =
    let g = c.args.input.now in
    let l = lists_lent c.args.lent.now in
    let h = c.args.held in
    let vs = c.put_words.new.words in
    ap (λ (x : JoinAnswer). with_words x vs) (same_answer l h g.dispatches.now g.flags.now g.dynamics.now g.asked (edge_words g.edges.now) vs c.join.result (lists_lent c.join.new.lent) ∙ c.join.ensures.is)
    ∙ rw c.put_words.ensures (joins l h g.dispatches.now g.flags.now g.dynamics.now g.asked g.edges.now c.args.words.now c.if-input-count.false)
