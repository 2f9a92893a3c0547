-- The text of a list's lines, whose operands are places of the list.
use Rattle.std.specs.Prelude.{ℕ, min, List, [], ◌∷◌, ◌++◌, length, take, drop, slice_index_or}
use Rattle.btor2.specs.Op.{map_op}
use Rattle.btor2_list.specs.Record.{capacity}
use Rattle.btor2_list.specs.Node.{Node, no_node}
use Rattle.btor2_list.specs.View.{view}
use Rattle.line_text.specs.Record.{line_text, printed_name}

-- the lines of a list of n lines, as far as the lent words reach
abbrev pub nodes : List ℕ → ℕ → List Node
nodes ws n = view ws (min n (capacity (length ws)))

abbrev pub node_at : List Node → ℕ → Node
node_at ns p = slice_index_or ns p no_node

-- `get_nid`: the identifier of the line at a place, 0 where there is none
abbrev pub nid_at : List Node → ℕ → ℕ
nid_at ns p = (node_at ns p).nid

-- a line whose operands are places of a list
abbrev pub node_text : List ℕ → List ℕ → List Node → Node → List ℕ
node_text host ours ns n = line_text (printed_name host ours) n.nid (map_op (nid_at ns) n.op)

-- ---- a run of a list's lines

unfoldable pub nodes_text : List ℕ → List ℕ → List Node → List Node → List ℕ
nodes_text host ours ns [] = []
nodes_text host ours ns (n ∷ run) = node_text host ours ns n ++ nodes_text host ours ns run

abbrev pub run_text : List ℕ → List ℕ → List Node → ℕ → ℕ → List ℕ
run_text host ours ns from count = nodes_text host ours ns (take count (drop from ns))
