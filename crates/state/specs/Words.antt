-- The state between calls as words that a host keeps.
use Rattle.std.specs.Prelude.{ℕ, zero, suc, ◌+◌, cond, List, [], ◌∷◌, ◌++◌, map, ltb, length, get_or, drop}
use Rattle.btor2.specs.declared.NodeRef.{NodeRef}
use Rattle.builder.specs.declared.Tally.{Tally}
use Rattle.models.specs.Places as P
use Rattle.state.specs.Roles.{ref, role_count, with_flows, with_outcome}
use Rattle.state.specs.declared.Counts.{Counts}
use Rattle.state.specs.declared.State.{State}

-- ---- the state's words: the tally, the counts, and then the roles

abbrev pub lines_word : ℕ
lines_word = 0

abbrev pub nid_word : ℕ
nid_word = 1

abbrev pub names_word : ℕ
names_word = 2

abbrev pub edges_word : ℕ
edges_word = 3

abbrev pub dispatches_word : ℕ
dispatches_word = 4

abbrev pub bads_word : ℕ
bads_word = 5

abbrev pub first_role : ℕ
first_role = 6

abbrev pub state_words : ℕ
state_words = first_role + role_count

-- n places; 0 for a word that is missing
unfoldable pub places_in : ℕ → List ℕ → List NodeRef
places_in zero ws = []
places_in (suc n) ws = ref (get_or ws 0 0) ∷ places_in n (drop 1 ws)

unfoldable pub roles_in : List ℕ → List NodeRef
roles_in ws = places_in role_count (drop first_role ws)

abbrev pub state_of : Tally → Counts → List NodeRef → State
state_of t c roles = record { tally = t; counts = c; roles = roles }

unfoldable pub state_in : List ℕ → State
state_in ws = record {
  tally = record { lines = get_or ws lines_word 0; nid = get_or ws nid_word 0 };
  counts = record { names = get_or ws names_word 0; edges = get_or ws edges_word 0; dispatches = get_or ws dispatches_word 0; bads = get_or ws bads_word 0 };
  roles = roles_in ws;
}

abbrev pub place : NodeRef → ℕ
place r = r.0

unfoldable pub state_out : State → List ℕ
state_out s =
    s.tally.lines ∷ s.tally.nid ∷ s.counts.names ∷ s.counts.edges ∷ s.counts.dispatches ∷ s.counts.bads ∷ map place s.roles

-- words that hold another state; those after it are as they were
unfoldable pub with_state : List ℕ → State → List ℕ
with_state ws s = state_out s ++ drop state_words ws

-- ---- what a call reads and puts, where there may be fewer words than a state has

abbrev pub roles_held : List ℕ → List NodeRef
roles_held ws = cond (ltb (length ws) state_words) [] (roles_in ws)

-- the tally and the counts of a call that changes no role
abbrev pub counts_stored : List ℕ → Tally → Counts → List ℕ
counts_stored ws t c = cond (ltb (length ws) state_words) ws (with_state ws (state_of t c (roles_in ws)))

-- the tally and the counts of an accepted call, and the roles with the flows that it sets
abbrev pub stored : List ℕ → Tally → Counts → P.Flows ℕ → ℕ → P.Outcome ℕ → List ℕ
stored ws t c f rd o = cond (ltb (length ws) state_words) ws (with_state ws (state_of t c (with_outcome (with_flows (roles_in ws) f) rd o)))
