-- What the private functions give, of which `lower` is made, and the bounds that one asks for.
use Rattle.std.specs.Prelude.{ℕ, ◌+◌, ◌-◌, ◌*◌, ◌≤◌, ◌<◌, cond, List, eqb, ltb, get_or, set}
use Rattle.state.specs.declared.State.{State}
use Rattle.edges.specs.declared.InEdge.{InEdge}

-- the records with the first n of a and b from count on
abbrev pub appended : List InEdge → ℕ → ℕ → InEdge → InEdge → List InEdge
appended es count n a b = cond (eqb n 0) es (cond (eqb n 1) (set es count a) (set (set es count a) (count + 1) b))

-- the record at a place of words
abbrev pub edge_at : List ℕ → ℕ → InEdge
edge_at ws p = record { to = get_or ws (p * 4) 0; from = get_or ws (p * 4 + 1) 0; origin = get_or ws (p * 4 + 2) 0; condition = record { 0 = get_or ws (p * 4 + 3) 0 } }

-- of two records, as many in use that as many are left as count leaves of room; 3 where count is above room
abbrev pub used_of : ℕ → ℕ → ℕ
used_of count room = cond (ltb room count) 3 ((count + 2) - room)

-- the state with another count of edges
abbrev pub with_edges : State → ℕ → State
with_edges st n =
    record {
      tally = st.tally;
      counts = record { names = st.counts.names; edges = n; dispatches = st.counts.dispatches; bads = st.counts.bads };
      roles = st.roles;
    }

-- edges that are added after count others, of which there is room for so many, stand in two records after those that are used there
pub record Fits (count added used room : ℕ) : Type 0 where
  pub there : 0 < added → count + added ≤ room
  pub own : 0 < added → used + added ≤ 2
