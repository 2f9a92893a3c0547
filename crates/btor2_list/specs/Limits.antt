-- How long a list may be and how far its identifiers may go (document 01, "Start, storage, evaluation" and refusal 9).
use Rattle.std.specs.Prelude.{ℕ, ◌+◌, ◌^◌, Bool, ◌||◌, ltb}

-- "A list holds at most 1,048,576 lines"
abbrev pub most_lines : ℕ
most_lines = 1048576

-- "a start's next identifier is at most 2^31"
abbrev pub most_start_nid : ℕ
most_start_nid = 2 ^ 31

-- "above 2^31 + 2,097,152 at a lowering; a line's identifier above that sum [..] when printing"
abbrev pub most_nid : ℕ
most_nid = most_start_nid + 2097152

-- 9, of n lines in storage that holds `room` lines: "more than 1,048,576 lines; [..] or a count above its storage".
abbrev pub lines_out : ℕ → ℕ → Bool
lines_out room n = ltb most_lines n || ltb room n

-- and of their next identifier, which is at most `most`
abbrev pub tally_out : ℕ → ℕ → ℕ → ℕ → Bool
tally_out most room n next = lines_out room n || ltb most next
