-- The listing program's own start (document 01, "The listing program has its own start").
use Rattle.std.specs.Prelude.{ℕ, zero, suc, ◌+◌, ◌-◌, cond, List, [], ◌∷◌, ◌++◌, map, ltb, length, get_or, take, drop, None}
use Rattle.btor2.specs.declared.Name.{Name}
use Rattle.btor2.specs.declared.NodeRef.{NodeRef}
use Rattle.btor2.specs.declared.NodeType.{NodeType}
use Rattle.btor2.specs.declared.NodeType.TheVariants.{Bit, Word, Memory}
use Rattle.btor2.specs.Op.{Op, const, state, unknown}
use Rattle.btor2_list.specs.Record.{capacity, words_for, words}
use Rattle.btor2_list.specs.declared.Line.{Line}
use Rattle.btor2_list.specs.Node.{line_of}
use Rattle.riscv.specs.Name.{bytes}
use Rattle.state.specs.declared.State.{State}

-- ---- names

unfoldable pub start_names : List (List ℕ)
start_names =
    map bytes
    ("x1" ∷ "x2" ∷ "x3" ∷ "x4" ∷ "x5" ∷ "x6" ∷ "x7" ∷ "x8" ∷ "x9" ∷ "x10" ∷ "x11" ∷ "x12"
    ∷ "x13" ∷ "x14" ∷ "x15" ∷ "x16" ∷ "x17" ∷ "x18" ∷ "x19" ∷ "x20" ∷ "x21" ∷ "x22" ∷ "x23" ∷ "x24"
    ∷ "x25" ∷ "x26" ∷ "x27" ∷ "x28" ∷ "x29" ∷ "x30" ∷ "x31" ∷ "memory" ∷ "counter" ∷ "counter-max" ∷ "flag" ∷ [])

unfoldable pub concat : List (List ℕ) → List ℕ
concat [] = []
concat (x ∷ xs) = x ++ concat xs

-- the host's area holds them one after the other
unfoldable pub host_area : List ℕ
host_area = concat start_names

unfoldable pub start_name : ℕ → Name
start_name k = record { area = 1; at = length (concat (take k start_names)); len = length (get_or start_names k []) }

-- ---- lines

-- 20 to 58
abbrev pub first_nid : ℕ
first_nid = 20

abbrev pub start_lines : ℕ
start_lines = 39

-- n states of a sort, under the names from k on
unfoldable pub named_states : NodeType → ℕ → ℕ → List (Op ℕ)
named_states s k zero = []
named_states s k (suc n) = state s (start_name k) ∷ named_states s (k + 1) n

-- "20 and 21 are the bits 0 and 1; 22 and 23 the words 0 and 1 (22 is also x0); 24 to 54 states `x1` to `x31`; 55 `memory`, 56 `counter`,
-- 57 `counter-max`, 58 the Bit state `flag`"
unfoldable pub start_ops : List (Op ℕ)
start_ops =
    const Bit 0 ∷ const Bit 1 ∷ const Word 0 ∷ const Word 1
    ∷ named_states Word 0 31 ++ named_states Memory 31 2 ++ named_states Word 33 1 ++ named_states Bit 34 1

-- the records of lines under identifiers that go up by one
unfoldable pub records : ℕ → List (Op ℕ) → List ℕ
records nid [] = []
records nid (o ∷ os) = words (line_of None nid o) ++ records (nid + 1) os

unfoldable pub start_words : List ℕ
start_words = records first_nid start_ops

-- the record of line k
abbrev pub start_line : ℕ → Line
start_line k = line_of None (first_nid + k) (get_or start_ops k unknown)

-- the lent words with the start in front, where they hold it
unfoldable pub start_in : List ℕ → List ℕ
start_in ws = cond (ltb (capacity (length ws)) start_lines) ws (start_words ++ drop (words_for start_lines) ws)

-- ---- roles

-- the place of the line under an identifier
abbrev pub placed : ℕ → NodeRef
placed nid = record { 0 = nid - first_nid }

unfoldable pub from_on : ℕ → ℕ → List ℕ
from_on nid zero = []
from_on nid (suc n) = nid ∷ from_on (nid + 1) n

-- zero and one as Bit and as Word; memory, counter and counter maximum; x0 to x31. "Register, memory, counter and counter-max flows start as
-- their nodes, division and remainder as 23, access as 22, bits as 20."
unfoldable pub start_roles : List NodeRef
start_roles =
    map placed
    ((20 ∷ 21 ∷ 22 ∷ 23 ∷ 55 ∷ 56 ∷ 57 ∷ 22 ∷ from_on 24 31) ++ from_on 24 31 ++ (55 ∷ 56 ∷ 57 ∷ 23 ∷ 23 ∷ 22 ∷ 20 ∷ 20 ∷ 20 ∷ []))

-- the next line has identifier 59; nothing of the other lists is in use
unfoldable pub start_state : State
start_state = record {
  tally = record { lines = start_lines; nid = first_nid + start_lines };
  counts = record { names = 0; edges = 0; dispatches = 0; bads = 0 };
  roles = start_roles;
}
