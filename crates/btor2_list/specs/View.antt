-- The lines that the lent words stand for.
use Rattle.std.specs.Prelude.{ℕ, zero, suc, List, [], ◌∷◌, ◌++◌}
use Rattle.btor2_list.specs.Record.{record_at}
use Rattle.btor2_list.specs.Node.{Node, node_of}

-- the first n lines
unfoldable pub view : List ℕ → ℕ → List Node
view ws zero = []
view ws (suc n) = view ws n ++ (node_of (record_at ws n) ∷ [])
