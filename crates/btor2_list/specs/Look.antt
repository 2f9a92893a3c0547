-- What a place is to a line that names it.
use Rattle.std.specs.Prelude.{ℕ, cond, ◌&&◌, List, ltb, None, Option}
use Rattle.btor2.specs.Op.{carried}
use Rattle.btor2_list.specs.declared.Looked.{Looked}
use Rattle.btor2_list.specs.Record.{record_at, holds}
use Rattle.btor2_list.specs.Node.{Node, node_of}

-- a line's identifier, and the sort of its value if it carries one
abbrev pub seen : Node → Looked
seen n = record { nid = record { 0 = n.nid }; sort = carried n.op }

-- where there is no line
abbrev pub outside : Looked
outside = record { nid = record { 0 = 0 }; sort = None }

-- of a list of n lines: a place from n on, or past the lent words, is outside
abbrev pub look_at : List ℕ → ℕ → ℕ → Looked
look_at ws n p = cond (ltb p n && holds ws p) (seen (node_of (record_at ws p))) outside

-- the address of the line at a place of such a list
abbrev pub address_at : List ℕ → ℕ → ℕ → Option ℕ
address_at ws n p = cond (ltb p n && holds ws p) (record_at ws p).address None
