-- What the listing lends (document 01, "The listing program has its own start"): "It holds 1,024 lines, its start included, with room for their
-- bads and names; edges and dispatches are emptied after each line."
use Rattle.std.specs.Prelude.{ℕ, ◌*◌, replicate}
use Rattle.btor2_list.specs.Record.{words_for}
use Rattle.edges.specs.Edges.{edge_stride, dispatch_stride}
use Rattle.listing_start.specs.Start.{start_in}
use Rattle.lowering.specs.Lowering.{Lent, lent}

abbrev pub listing_lines : ℕ
listing_lines = 1024

-- of a bad line: `unimplemented-pc-` and at most 16 digits
abbrev pub longest_name : ℕ
longest_name = 33

-- of one instruction: "Branch: the taken edge first, then the other"; "Jalr: a dispatch"
abbrev pub most_edges : ℕ
most_edges = 2

abbrev pub most_dispatches : ℕ
most_dispatches = 1

-- every line may be a bad one with the longest name
unfoldable pub start_lent : Lent
start_lent =
    lent (start_in (replicate (words_for listing_lines) 0)) (replicate (listing_lines * longest_name) 0) (replicate (most_edges * edge_stride) 0)
    (replicate (most_dispatches * dispatch_stride) 0) (replicate listing_lines 0)

-- "over 256 bytes": of a line one byte more is kept, so that a longer one is seen to be longer
abbrev pub line_room : ℕ
line_room = 257

-- for the output of one line of input: 35 lines of at most 111 bytes, two edges of at most 81 and a dispatch of at most 48 take 4,095
abbrev pub out_room : ℕ
out_room = 4096
