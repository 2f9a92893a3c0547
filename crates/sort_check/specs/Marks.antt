-- What an earlier line is to a line that names it, from the records: what the sort rule looks at (btor2/specs/SortRule).
use Rattle.std.specs.Prelude.{ℕ, cond, ◌&&◌, List, ltb}
use Rattle.btor2.specs.SortRule.{Mark, mark_of, no_line}
use Rattle.btor2_list.specs.Record.{holds, record_at}
use Rattle.btor2_list.specs.Node.{op_of}

-- what the line at place q is to line i, if it is an earlier line
abbrev pub mark_at : List ℕ → ℕ → ℕ → Mark
mark_at ws i q = cond (ltb q i && holds ws q) (mark_of (op_of (record_at ws q))) no_line.mark
