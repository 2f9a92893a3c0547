-- The test of a line in a scan of the list, which has found that each line before it has a known kind and sort: of those only Next and Bad
-- carry no value (btor2/specs/Op), so that an operand is told by its place and its kind.
use Rattle.std.specs.Prelude.{ℕ, ◌+◌, Bool, true, cond, ◌||◌, List, eqb, leb}
use Rattle.btor2_list.specs.Kinds.{next_kind, bad_kind}
use Rattle.btor2_list.specs.Record.{has_name, record_at, holds, field_at}
use Rattle.btor2_list.specs.declared.Line.{Line}
use Rattle.btor2_list.specs.Node.{op_of}
use Rattle.list_check.specs.declared.Checked.{Checked}
use Rattle.list_check.specs.declared.Checked.TheVariants.{Unformed, Unnamed, Named}
use Rattle.list_check.specs.Formed.{op_unformed, unformed_words}

-- place q is that of no line before line i, or of a Next or a Bad
abbrev pub out_before : List ℕ → ℕ → ℕ → Bool
out_before ws i q = let kind = field_at (λ (l : Line). l.kind) ws q in leb i q || (eqb kind next_kind || eqb kind bad_kind)

-- 11, of line i; or the words do not hold it
abbrev pub scan_unformed : List ℕ → ℕ → ℕ → ℕ → Bool
scan_unformed ws i host ours = cond (holds ws i) (op_unformed host ours (out_before ws i) (op_of (record_at ws i))) true

-- the length of its name, where lines of its kind have one
abbrev pub name_length : Line → Checked
name_length l = cond (has_name l.kind) (Named l.name.len) Unnamed

-- what a scan finds of line i
abbrev pub scan_line : List ℕ → ℕ → ℕ → ℕ → Checked
scan_line ws i host ours = cond (scan_unformed ws i host ours) Unformed (name_length (record_at ws i))

-- which is this where the lines before line i are well formed: 11 of the lines up to it, and line i among them
abbrev pub checked_line : List ℕ → ℕ → ℕ → ℕ → Checked
checked_line ws i host ours = cond (unformed_words ws (i + 1) host ours) Unformed (name_length (record_at ws i))
