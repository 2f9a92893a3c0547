-- The refusals of a join (document 02, R-1): "It refuses as 9 and 13, then with 15 [..], then with 16 [..], then as 8", each over the whole call
-- before the next.
use Rattle.std.specs.Prelude.{ℕ, ◌+◌, ◌/◌, Bool, not, ◌&&◌, ◌||◌, List, [], ◌∷◌, eqb, ltb, length}
use Rattle.btor2.specs.declared.NodeType.TheVariants.{Bit, Word}
use Rattle.btor2.specs.Sort.{sort_number}
use Rattle.btor2_list.specs.Record.{capacity}
use Rattle.btor2_list.specs.Look.{look_at}
use Rattle.edges.specs.Edges.{edge_stride, branch_origin, syscall_origin, dispatch_stride}
use Rattle.list_check.specs.Lines.{any}
use Rattle.builder.specs.Prog.{Prog}
use Rattle.builder.specs.Lines.{lines_of, place_after}
use Rattle.riscv.specs.Refusal.{first}
use Rattle.state.specs.Roles.{role, zero_bit, one_bit, register_node}
use Rattle.riscv.specs.Format.{last_register}
use Rattle.state.specs.RolesFit.{value_sort, roles_fit}
use Rattle.state.specs.declared.State.{State}
use Rattle.btor2_list.specs.Limits.{most_lines, most_nid, tally_out}
use Rattle.join.specs.ControlFlow.{Bits, Kernel}
use Rattle.join.specs.declared.Asked.{Asked}
use Rattle.join.specs.declared.JoinHeld.{JoinHeld}
use Rattle.join.specs.Program.{Edge, Dispatch, names_of, nexts_of, join_address}
use Rattle.join.specs.Given.{edges_in, dispatches_in, Flag, flag_stride, flags_in, flag_for, dynamics_in, dynamic_for}

-- what the host lends to be written: the list, our name area, the sequentials
pub record JoinLent : Type 0 where
  pub list : List ℕ
  pub names : List ℕ
  pub sequentials : List ℕ

abbrev pub join_lent : List ℕ → List ℕ → List ℕ → JoinLent
join_lent list names sequentials = record { list = list; names = names; sequentials = sequentials }

-- what a join is given: "one address's edges and dispatches [..] in order, a table of flags by address, the kernel-mode, kernel-not and dynamic
-- flag nodes and a starting flow"; the numbers among these are `Asked`
pub record JoinInput : Type 0 where
  pub edges : List ℕ
  pub dispatches : List ℕ
  pub flags : List ℕ
  pub dynamics : List ℕ
  pub asked : Asked

abbrev pub join_input : List ℕ → List ℕ → List ℕ → List ℕ → Asked → JoinInput
join_input edges dispatches flags dynamics a = record { edges = edges; dispatches = dispatches; flags = flags; dynamics = dynamics; asked = a }

abbrev pub edges_of : JoinInput → List (Edge ℕ)
edges_of g = edges_in g.asked.edges g.edges

abbrev pub dispatches_of : JoinInput → List (Dispatch ℕ)
dispatches_of g = dispatches_in g.asked.dispatches g.dispatches

abbrev pub flags_of : JoinInput → List Flag
flags_of g = flags_in g.asked.flags g.flags

abbrev pub flag_of : JoinInput → ℕ → ℕ
flag_of g = flag_for (flags_of g)

abbrev pub zero_in : State → ℕ
zero_in st = (role st.roles zero_bit).0

abbrev pub bits_in : State → Bits ℕ
bits_in st = record { zero = zero_in st; one = (role st.roles one_bit).0; is_zero = λ p. eqb p (zero_in st) }

abbrev pub kernel_in : JoinInput → Kernel ℕ
kernel_in g = record { mode = g.asked.mode.0; none = g.asked.none.0 }

-- the lines of a join
unfoldable pub join_program : State → JoinInput → Prog ℕ ℕ
join_program st g =
    join_address (bits_in st) (kernel_in g) (flag_of g) (λ r. (register_node st.roles r).0) (dynamic_for g.dynamics) st.counts.names (edges_of g) (dispatches_of g) g.asked.flow.0

-- ---- 9: "a count above its storage", of what this call is lent and given; lines and identifiers as at a lowering

abbrev pub join_counts_out : JoinLent → JoinHeld → JoinInput → Bool
join_counts_out l h g =
    let t = h.state.tally in
    tally_out most_nid (capacity (length l.list)) t.lines t.nid
    || (ltb (length l.names) h.state.counts.names || (ltb (length g.edges / edge_stride) g.asked.edges
    || (ltb (length g.dispatches / dispatch_stride) g.asked.dispatches || (ltb (length g.flags / flag_stride) g.asked.flags
    || ltb (length l.sequentials) h.sequentials))))

-- ---- 15 and 16, on the first n lines of the list's words

module _ (ws : List ℕ) (n : ℕ) where
  -- no Bit value line, no Word value line
  abbrev pub bit_out : ℕ → Bool
  bit_out p = not (eqb (value_sort (look_at ws n p)) (sort_number Bit))

  abbrev pub word_out : ℕ → Bool
  word_out p = not (eqb (value_sort (look_at ws n p)) (sort_number Word))

  -- "an edge whose source has no flag", and "used or not, a flag": an entry of the table
  abbrev pub unflagged : (ℕ → ℕ) → Edge ℕ → Bool
  unflagged f x = bit_out (f x.from)

  abbrev pub entry_out : Flag → Bool
  entry_out x = bit_out x.place

  -- "with 15 an edge whose source has no flag, or, used or not, a flag, kernel node, dynamic flag or starting flow that isn't a Bit value line"
  unfoldable pub flags_out : JoinInput → Bool
  flags_out g =
      any (unflagged (flag_of g)) (edges_of g) || (any entry_out (flags_of g)
      || (bit_out g.asked.mode.0 || (bit_out g.asked.none.0 || (any bit_out (dynamics_in g.dynamics) || bit_out g.asked.flow.0))))

  -- "with 16 an unknown origin, a branch record without a Bit condition"
  abbrev pub edge_out : Edge ℕ → Bool
  edge_out x = ltb syscall_origin x.origin || (eqb x.origin branch_origin && bit_out x.condition)

  -- "or a dispatch whose register is x0 or above 31 or whose address node isn't a Word value line"
  abbrev pub dispatch_out : Dispatch ℕ → Bool
  dispatch_out x = eqb x.register 0 || (ltb last_register x.register || word_out x.address)

-- ---- 8: what the whole join appends exceeds the list, our area, the sequentials or 1,048,576 lines

unfoldable pub join_line_count : State → JoinInput → ℕ
join_line_count st g = length (lines_of (place_after st.tally.lines) 0 (join_program st g))

unfoldable pub join_room_out : JoinLent → JoinHeld → JoinInput → Bool
join_room_out l h g =
    let lines = h.state.tally.lines + join_line_count h.state g in
    ltb most_lines lines || (ltb (capacity (length l.list)) lines || (ltb (length l.names) (h.state.counts.names + length (names_of (edges_of g)))
    || ltb (length l.sequentials) (h.sequentials + nexts_of (edges_of g))))

unfoldable pub join_refusal : JoinLent → JoinHeld → JoinInput → ℕ
join_refusal l h g =
    let ws = l.list in
    let n = h.state.tally.lines in
    first
    ((join_counts_out l h g, 9)
    ∷ (not (roles_fit ws n 0 h.state.roles), 13)
    ∷ (flags_out ws n g, 15)
    ∷ ((any (edge_out ws n) (edges_of g) || any (dispatch_out ws n) (dispatches_of g)), 16)
    ∷ (join_room_out l h g, 8)
    ∷ [])
