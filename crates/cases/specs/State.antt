-- Changes of a state in a text of cases.
use Rattle.std.specs.Prelude.{ℕ, cond, List, nat_lt, slice_set}
use Rattle.btor2.specs.declared.NodeRef.{NodeRef}
use Rattle.cases.specs.Scan.{Read, read, number_from}
use Rattle.state.specs.Roles.{role_count}
use Rattle.state.specs.declared.State.{State}

-- six decimal numbers: the tally, and the counts
unfoldable pub counts_from : List ℕ → ℕ → State → Read State
counts_from text from st =
    let lines = number_from text from in
    let nid = number_from text lines.next in
    let names = number_from text nid.next in
    let edges = number_from text names.next in
    let dispatches = number_from text edges.next in
    let bads = number_from text dispatches.next in
    read (record {
      tally = record { lines = lines.value; nid = nid.value };
      counts = record { names = names.value; edges = edges.value; dispatches = dispatches.value; bads = bads.value };
      roles = st.roles;
    }) bads.next

-- another place of a role; one past the last changes nothing
unfoldable pub with_role : List NodeRef → ℕ → NodeRef → List NodeRef
with_role roles role place = cond (nat_lt role role_count) (slice_set roles role place) roles

-- two decimal numbers: the role, and its place
unfoldable pub role_from : List ℕ → ℕ → State → Read State
role_from text from st =
    let role = number_from text from in
    let place = number_from text role.next in
    read (record { tally = st.tally; counts = st.counts; roles = with_role st.roles role.value (record { 0 = place.value }) }) place.next
