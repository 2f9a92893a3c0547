-- The words after none is put, after one more is, and after all are. Assumes nothing.
use Rattle.std.proofs.Common.{ap, ◌∙◌, List, arith}
use Rattle.std.proofs.lemmas.List.{take_all}
use Rattle.std.proofs.lemmas.List.Edits.{sets}
use Rattle.edges.specs.InEdges.{edge_words}
use Rattle.edges.specs.declared.InEdge.{InEdge}
use Rattle.join_entry.proofs.Words.{put_none, put_next}
use Rattle.join_entry.proofs.put_words.Goals as goal

pub loop-place-init : goal.loop-place-init
loop-place-init c = put_none c.args.words.now c.args.edges.now

pub loop-place-preserved : goal.loop-place-preserved
loop-place-preserved c = c.put_edge.ensures ∙ rw c.loop-place.invariant (put_next c.args.words.now c.args.edges.now c.loop-place.place _ (omega arith))

pub returns : goal.returns
returns c = c.loop-place.invariant ∙ ap (λ (es : List InEdge). sets c.args.words.now 0 (edge_words es)) (take_all c.loop-place.place c.args.edges.now (omega arith))
