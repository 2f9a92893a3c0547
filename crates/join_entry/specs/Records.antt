-- A join of in-edges that are records. The host lends words for theirs.
use Rattle.std.specs.Prelude.{ℕ, ◌/◌, Bool, cond, ◌||◌, List, ltb, length, take}
use Rattle.std.proofs.lemmas.List.Edits.{sets}
use Rattle.edges.specs.Edges.{edge_stride}
use Rattle.join.specs.declared.Asked.{Asked}
use Rattle.join.specs.declared.JoinHeld.{JoinHeld}
use Rattle.join.specs.Refusal.{JoinLent, join_input}
use Rattle.join.specs.Join.{JoinAnswer, join_refused, joining}
use Rattle.edges.specs.declared.InEdge.{InEdge}
use Rattle.edges.specs.InEdges.{edge_words}

-- what a call gives, and the lent words as it leaves them
pub record Answered : Type 0 where
  pub answer : JoinAnswer
  pub words : List ℕ

abbrev pub with_words : JoinAnswer → List ℕ → Answered
with_words x ws = record { answer = x; words = ws }

-- 9: more edges than there are records, or than so many words hold
abbrev pub edges_over : ℕ → ℕ → Asked → Bool
edges_over records words a = ltb records a.edges || ltb (words / edge_stride) a.edges

-- A call that is refused for it leaves the words as they were. Any other is the join of the records' words, and leaves those of its edges in
-- front.
unfoldable pub joining_records : JoinLent → JoinHeld → List InEdge → List ℕ → List ℕ → List ℕ → List ℕ → Asked → Answered
joining_records l h es ws dispatches flags dynamics a =
    let g = join_input (edge_words es) dispatches flags dynamics a in
    cond (edges_over (length es) (length ws) a) (with_words (join_refused 9 l h g) ws) (with_words (joining l h g) (sets ws 0 (edge_words (take a.edges es))))
