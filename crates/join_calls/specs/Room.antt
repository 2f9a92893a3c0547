-- What a join appends, counted by its edges' origins, for private functions.
use Rattle.std.specs.Prelude.{ℕ, ◌+◌, ◌*◌, ◌-◌, Bool, false, cond, ◌&&◌, ◌||◌, List, [], ◌∷◌, eqb, ltb, length, Option, None, Some}
use Rattle.edges.specs.Edges.{branch_origin, syscall_origin}
use Rattle.join.specs.Program.{Edge, edge_name, names_of, nexts_by, nexts_of}
use Rattle.join_calls.specs.declared.room.Left.{Left}

-- the lines of an edge before its ite, and with it: there is none where the flow is the zero bit's own place
abbrev pub own_lines : ℕ → ℕ
own_lines origin = cond (eqb origin branch_origin) 1 (cond (eqb origin syscall_origin) 4 0)

abbrev pub edge_lines : ℕ → Bool → ℕ
edge_lines origin zero = own_lines origin + cond zero 0 1

-- whether the flow after an edge is the zero bit's own place
abbrev pub zero_after : ℕ → Bool → Bool → Bool
zero_after origin zero flag_is_zero = cond (eqb origin branch_origin) false (cond (eqb origin syscall_origin) false (zero && flag_is_zero))

-- the lines of edges, and whether the flow after them is the zero bit's own place
module _ {A : Type 0} (flag_is_zero : ℕ → Bool) where
  unfoldable pub edges_lines : Bool → List (Edge A) → ℕ
  edges_lines zero [] = 0
  edges_lines zero (x ∷ xs) = edge_lines x.origin zero + edges_lines (zero_after x.origin zero (flag_is_zero x.from)) xs

  unfoldable pub zero_after_all : Bool → List (Edge A) → Bool
  zero_after_all zero [] = zero
  zero_after_all zero (x ∷ xs) = zero_after_all (zero_after x.origin zero (flag_is_zero x.from)) xs

-- the lines of so many dispatches
abbrev pub dispatch_lines : Bool → ℕ → ℕ
dispatch_lines zero n = cond (eqb n 0) 0 (cond zero (n * 3 - 1) (n * 3))

-- ---- what is left of the room

abbrev pub edge_exceeds : Left → ℕ → ℕ → Bool
edge_exceeds l origin from =
    ltb l.lines (edge_lines origin l.zero) || (ltb l.names (length (edge_name origin from)) || ltb l.sequentials (nexts_by origin))

abbrev pub left_after : Left → ℕ → ℕ → Bool → Left
left_after l origin from flag_is_zero = record {
  lines = l.lines - edge_lines origin l.zero;
  names = l.names - length (edge_name origin from);
  sequentials = l.sequentials - nexts_by origin;
  zero = zero_after origin l.zero flag_is_zero;
}

abbrev pub left_after_edge : Left → ℕ → ℕ → Bool → Option Left
left_after_edge l origin from flag_is_zero = cond (edge_exceeds l origin from) None (Some (left_after l origin from flag_is_zero))

-- edges and dispatches append more than there is room for
unfoldable pub exceeding : (ℕ → Bool) → Left → List (Edge ℕ) → ℕ → Bool
exceeding flag_is_zero l xs n =
    ltb l.lines (edges_lines flag_is_zero l.zero xs + dispatch_lines (zero_after_all flag_is_zero l.zero xs) n)
    || (ltb l.names (length (names_of xs)) || ltb l.sequentials (nexts_of xs))
