-- The refusals of a lowering (document 01, "Who can be refused, and with what"): "a lowering 9, 13, then 1 to 8. First match wins."
use Rattle.std.specs.Prelude.{ℕ, ◌+◌, Bool, cond, not, ◌&&◌, ◌||◌, List, [], ◌∷◌, eqb, ltb, length}
use Rattle.btor2.specs.declared.NodeType.TheVariants.{Bit}
use Rattle.btor2.specs.Sort.{sort_number}
use Rattle.btor2_list.specs.Limits.{most_lines, most_nid}
use Rattle.btor2_list.specs.Look.{look_at}
use Rattle.builder.specs.declared.Tally.{Tally}
use Rattle.edges.specs.Edges.{edge_count}
use Rattle.riscv.specs.Class.{class, line_count, needs_flag, has_bad, has_dispatch}
use Rattle.riscv.specs.declared.Instruction.{Instruction}
use Rattle.riscv.specs.declared.Zeros.{Zeros}
use Rattle.riscv.specs.Zeros.{zeros_of}
use Rattle.riscv.specs.declared.Kind.{Kind}
use Rattle.riscv.specs.Kind.{kind_at}
use Rattle.riscv.specs.Refusal.{refusal, first}
use Rattle.state.specs.RolesFit.{value_sort, roles_fit}
use Rattle.text.specs.BadName.{bad_name}
use Rattle.state.specs.declared.Counts.{Counts}
use Rattle.state.specs.declared.room.Room.{Room}
use Rattle.state.specs.declared.State.{State}
use Rattle.state.specs.Room.{counts_out}

-- what an instruction of a kind appends
unfoldable pub needs_of : Kind → Zeros → ℕ → Room
needs_of k z address = record {
  lines = line_count k z;
  names = cond (has_bad (class k) z) (length (bad_name address)) 0;
  edges = edge_count (class k);
  dispatches = cond (has_dispatch (class k) z) 1 0;
  bads = cond (has_bad (class k) z) 1 0;
}

abbrev pub needs : Instruction → ℕ → Room
needs i address = needs_of (kind_at i.kind) (zeros_of i) address

-- 8: "what this instruction appends exceeds a lent list or area, or 1,048,576 lines"
unfoldable pub room_out : Room → Tally → Counts → Room → Bool
room_out room t c n =
    ltb most_lines (t.lines + n.lines) || (ltb room.lines (t.lines + n.lines) || (ltb room.names (c.names + n.names)
    || (ltb room.edges (c.edges + n.edges) || (ltb room.dispatches (c.dispatches + n.dispatches) || ltb room.bads (c.bads + n.bads)))))

-- 7: "a flag is needed and is absent, outside the list or not a value line of sort Bit"
unfoldable pub flag_out : List ℕ → ℕ → Instruction → ℕ → Bool
flag_out ws lines i flag =
    needs_flag (kind_at i.kind) (zeros_of i) && not (eqb (value_sort (look_at ws lines flag)) (sort_number Bit))

-- the tests of the record and of what is lent for it, whose numbers come after 9 and 13; the record's own are 1 to 6
abbrev pub tests_of_record : List ℕ → Room → Tally → Counts → Instruction → ℕ → ℕ → List (Bool × ℕ)
tests_of_record ws room t c i address flag =
    (not (eqb (refusal i) 0), refusal i) ∷ (flag_out ws t.lines i flag, 7) ∷ (room_out room t c (needs i address), 8) ∷ []

-- the number of the first refusal that applies, or 0. `fits` is the answer of the test of the roles, 13.
unfoldable pub refusal_given : Bool → List ℕ → Room → Tally → Counts → Instruction → ℕ → ℕ → ℕ
refusal_given fits ws room t c i address flag =
    first ((counts_out most_nid room t c, 9) ∷ (not fits, 13) ∷ tests_of_record ws room t c i address flag)

-- 13: "a role is outside the list, not a value line, or of the wrong sort"
abbrev pub refusal_of : List ℕ → Room → State → Instruction → ℕ → ℕ → ℕ
refusal_of ws room st i address flag = refusal_given (roles_fit ws st.tally.lines 0 st.roles) ws room st.tally st.counts i address flag
