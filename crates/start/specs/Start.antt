-- The refusals of a list of lines and of a start (document 01, "Who can be refused, and with what"): "A start is checked 9 to 13. [..] First
-- match wins": each is looked for in the whole list before the next. A list alone, without roles, is checked 9 to 12 (document 02, R-6).
use Rattle.std.specs.Prelude.{ℕ, Bool, not, List, [], ◌∷◌, ◌++◌, length}
use Rattle.btor2.specs.SortRule.{meets_sort_rule}
use Rattle.btor2_list.specs.Limits.{most_start_nid, tally_out}
use Rattle.btor2_list.specs.Node.{Node}
use Rattle.btor2_list.specs.Record.{capacity}
use Rattle.btor2_list.specs.View.{view}
use Rattle.list_check.specs.Lines.{ops}
use Rattle.list_check.specs.Formed.{unformed}
use Rattle.state.specs.declared.room.Room.{Room}
use Rattle.state.specs.declared.State.{State}
use Rattle.state.specs.Room.{counts_out}
use Rattle.nid_check.specs.Identifiers.{taken, nids_out}
use Rattle.riscv.specs.Refusal.{first}
use Rattle.state.specs.RolesFit.{roles_fit}

-- the tests 10 to 12 of lines with this next identifier; the name areas are `host` and `ours` bytes long
abbrev pub tests_of_lines : List Node → ℕ → ℕ → ℕ → List (Bool × ℕ)
tests_of_lines lines next host ours =
    (nids_out next (taken lines), 10) ∷ (unformed host ours (ops lines), 11) ∷ (not (meets_sort_rule (ops lines)), 12) ∷ []

-- the first of 9 to 12 that applies, or 0, to the first n lines in words `ws`
unfoldable pub list_refusal : List ℕ → ℕ → ℕ → ℕ → ℕ → ℕ
list_refusal ws n next host ours = first ((tally_out most_start_nid (capacity (length ws)) n next, 9) ∷ tests_of_lines (view ws n) next host ours)

-- the first of 9 to 13 that applies, or 0, to a start in words `ws`, whose host's name area is `host` bytes long
unfoldable pub start_refusal : List ℕ → ℕ → Room → State → ℕ
start_refusal ws host room st =
    let n = st.tally.lines in
    first
    ((counts_out most_start_nid room st.tally st.counts, 9)
    ∷ (tests_of_lines (view ws n) st.tally.nid host room.names ++ ((not (roles_fit ws n 0 st.roles), 13) ∷ [])))
