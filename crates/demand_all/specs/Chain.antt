-- A chain of calls over the state's words, as a host makes them by `lanthanumbat_lower` and `lanthanumbat_join`, is a list of calls that demand 3
-- speaks of. The host keeps the list, our name area and the state's words; between two calls it may lend other lists of edges, dispatches, bads
-- and sequentials and set their counts: "edge, dispatch and bad lists may change in between".
use Rattle.std.specs.Prelude.{ℕ, ◌≤◌, ◌≡◌, List, [], ◌∷◌, length, set}
use Rattle.lowering.specs.Lowering.{lent}
use Rattle.state.specs.Words.{edges_word, dispatches_word, bads_word, state_words, state_in}
use Rattle.lowering.specs.Words.{Given, lowering_words}
use Rattle.lowering.specs.declared.LowerCall.{LowerCall}
use Rattle.join.specs.Refusal.{join_lent, JoinInput}
use Rattle.join.specs.Words.{GivenJoin, joining_words}
use Rattle.demand.specs.Calls.{Held, Request, Join, Call, lower, join, run}

pub record Kept : Type 0 where
  pub list : List ℕ
  pub names : List ℕ
  pub state : List ℕ

-- one lowering, and what is lent with it besides the list and our name area
pub record LowerLink : Type 0 where
  pub call : LowerCall
  pub edges : List ℕ
  pub dispatches : List ℕ
  pub bads : List ℕ
  pub edge_count : ℕ
  pub dispatch_count : ℕ
  pub bad_count : ℕ

-- one join, what it is given, and the sequentials that are lent with it
pub record JoinLink : Type 0 where
  pub given : JoinInput
  pub sequentials : List ℕ
  pub used : ℕ

pub data Link : Type 0 where
  lowers : LowerLink → Link
  joins : JoinLink → Link

-- the state's words once the host has set these counts
abbrev pub with_counts : List ℕ → LowerLink → List ℕ
with_counts ws c = set (set (set ws edges_word c.edge_count) dispatches_word c.dispatch_count) bads_word c.bad_count

unfoldable pub answer_by : Kept → LowerLink → Given
answer_by k c =
    lowering_words (lent k.list k.names c.edges c.dispatches c.bads) (with_counts k.state c) c.call.instruction c.call.address
    c.call.flag

unfoldable pub join_answer_by : Kept → JoinLink → GivenJoin
join_answer_by k c = joining_words (join_lent k.list k.names c.sequentials) k.state c.used c.given

-- what the host keeps after a call, and after all of a chain, refused ones among them
unfoldable pub after : Kept → Link → Kept
after k (lowers c) = let g = answer_by k c in record { list = g.lent.list; names = g.lent.names; state = g.state }
after k (joins c) = let g = join_answer_by k c in record { list = g.lent.list; names = g.lent.names; state = g.state }

unfoldable pub chain : Kept → List Link → Kept
chain k [] = k
chain k (c ∷ cs) = chain (after k c) cs

-- the same calls as demand 3's: each is lent what the one before it left
abbrev pub request_for : Kept → LowerLink → Request
request_for k c = record {
  call = c.call;
  list = k.list;
  names = k.names;
  edges = c.edges;
  dispatches = c.dispatches;
  bads = c.bads;
  edge_count = c.edge_count;
  dispatch_count = c.dispatch_count;
  bad_count = c.bad_count;
}

abbrev pub join_for : Kept → JoinLink → Join
join_for k c = record { given = c.given; list = k.list; names = k.names; sequentials = c.sequentials; sequential_count = c.used }

abbrev pub call_for : Kept → Link → Call
call_for k (lowers c) = lower (request_for k c)
call_for k (joins c) = join (join_for k c)

unfoldable pub chain_calls : Kept → List Link → List Call
chain_calls k [] = []
chain_calls k (c ∷ cs) = call_for k c ∷ chain_calls (after k c) cs

abbrev pub held_in : Kept → Held
held_in k = record { list = k.list; names = k.names; state = state_in k.state }

-- "List, areas, identifier count and roles pass on": all that demand 3 speaks of
pub record PassesOn (h : Held) (k : Kept) : Type 0 where
  pub list : h.list ≡ k.list
  pub names : h.names ≡ k.names
  pub tally : h.state.tally ≡ (state_in k.state).tally
  pub used : h.state.counts.names ≡ (state_in k.state).counts.names
  pub roles : h.state.roles ≡ (state_in k.state).roles

abbrev pub ChainIsRun : Type 0
ChainIsRun = (k : Kept) (cs : List Link) → state_words ≤ length k.state → PassesOn (run (held_in k) (chain_calls k cs)) (chain k cs)
