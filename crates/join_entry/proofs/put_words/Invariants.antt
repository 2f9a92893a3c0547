-- Before each turn the words are those of the records so far. Assumes nothing.
use Rattle.std.proofs.Common.{◌≡◌, take}
use Rattle.std.proofs.lemmas.List.Edits.{sets}
use Rattle.edges.specs.InEdges.{edge_words}
use Rattle.join_entry.proofs.put_words.Given as goal

abbrev pub invariant-loop-place : goal.invariant-loop-place
invariant-loop-place l = l.words ≡ sets l.initial.words 0 (edge_words (take l.place l.edges))
