-- The records that a join is given, as the code reads them, for private functions.
use Rattle.std.specs.Prelude.{ℕ, ◌*◌, ◌/◌, ◌≤◌, ◌≡◌, List, length, take}
use Rattle.edges.specs.Edges.{edge_stride, dispatch_stride}
use Rattle.edges.specs.declared.InEdge.{InEdge}
use Rattle.join.specs.Program as P
use Rattle.join.specs.Given as G
use Rattle.join.specs.Given.{flag_stride, edges_in, dispatches_in, flags_in}
use Rattle.join.specs.Refusal.{JoinInput, join_input}
use Rattle.join_calls.specs.declared.records.Dispatch.{Dispatch}
use Rattle.join_calls.specs.declared.records.Flag.{Flag}

-- the code's records as the definitions'
abbrev pub edge_record : InEdge → P.Edge ℕ
edge_record e = record { from = e.from; origin = e.origin; condition = e.condition.0 }

abbrev pub dispatch_record : Dispatch → P.Dispatch ℕ
dispatch_record d = record { register = d.register; address = d.address.0 }

abbrev pub flag_record : Flag → G.Flag
flag_record f = record { address = f.address; place = f.place.0 }

-- the records of all of the words
abbrev pub all_edges : List ℕ → List (P.Edge ℕ)
all_edges ws = edges_in (length ws / edge_stride) ws

abbrev pub all_dispatches : List ℕ → List (P.Dispatch ℕ)
all_dispatches ws = dispatches_in (length ws / dispatch_stride) ws

abbrev pub all_flags : List ℕ → List G.Flag
all_flags ws = flags_in (length ws / flag_stride) ws

-- the counts are within the words that are given
pub record CountsWithin (g : JoinInput) : Type 0 where
  pub edges : g.asked.edges * edge_stride ≤ length g.edges
  pub dispatches : g.asked.dispatches * dispatch_stride ≤ length g.dispatches
  pub flags : g.asked.flags * flag_stride ≤ length g.flags

-- the records that are asked for, without the words after them
abbrev pub asked_for : JoinInput → JoinInput
asked_for g =
    join_input (take (g.asked.edges * edge_stride) g.edges) (take (g.asked.dispatches * dispatch_stride) g.dispatches) (take (g.asked.flags * flag_stride) g.flags) g.dynamics g.asked

-- there are no words after them
pub record Exact (g : JoinInput) : Type 0 where
  pub edges : length g.edges ≡ g.asked.edges * edge_stride
  pub dispatches : length g.dispatches ≡ g.asked.dispatches * dispatch_stride
  pub flags : length g.flags ≡ g.asked.flags * flag_stride
