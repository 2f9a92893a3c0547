-- How much lent storage holds, and refusal 9 of a call (document 01, "Who can be refused, and with what").
use Rattle.std.specs.Prelude.{ℕ, ◌/◌, Bool, ◌||◌, ltb}
use Rattle.btor2_list.specs.Limits.{tally_out}
use Rattle.btor2_list.specs.Record.{capacity}
use Rattle.builder.specs.declared.Tally.{Tally}
use Rattle.edges.specs.Edges.{edge_stride, dispatch_stride}
use Rattle.state.specs.declared.Counts.{Counts}
use Rattle.state.specs.declared.room.Room.{Room}

-- how many records or bytes lent storage of these lengths holds; a bad is one word
unfoldable pub room_of : ℕ → ℕ → ℕ → ℕ → ℕ → Room
room_of list names edges dispatches bads = record {
  lines = capacity list;
  names = names;
  edges = edges / edge_stride;
  dispatches = dispatches / dispatch_stride;
  bads = bads;
}

-- 9: "more than 1,048,576 lines; a next identifier above 2^31 at the start, or above 2^31 + 2,097,152 at a lowering; [..] or a count above its
-- storage"
abbrev pub counts_out : ℕ → Room → Tally → Counts → Bool
counts_out most room t c =
    tally_out most room.lines t.lines t.nid
    || (ltb room.names c.names || (ltb room.edges c.edges || (ltb room.dispatches c.dispatches || ltb room.bads c.bads)))
