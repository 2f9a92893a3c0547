-- In-edges as records, and as the words in which the core's number slice holds them.
use Rattle.std.specs.Prelude.{ℕ, List, [], ◌∷◌}
use Rattle.edges.specs.declared.InEdge.{InEdge}

-- "in-edges are a lent slice of records: to, from, origin, condition": of each record in turn its words, as `edge` has them
unfoldable pub edge_words : List InEdge → List ℕ
edge_words [] = []
edge_words (e ∷ es) = e.to ∷ e.from ∷ e.origin ∷ e.condition.0 ∷ edge_words es
