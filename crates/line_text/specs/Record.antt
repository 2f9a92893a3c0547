-- The text of a node line whose operands are identifiers, clause by clause as unicorn's `write_model` prints them with 64-bit values.
use Rattle.std.specs.Prelude.{ℕ, ◌+◌, ◌-◌, ◌%◌, ◌^◌, true, false, cond, ◌||◌, List, [], ◌∷◌, ◌++◌, ◌==◌}
use Prim.Native.String.{String}
use Rattle.btor2.specs.declared.Name.{Name}
use Rattle.btor2.specs.Sort.{sort_number, width}
use Rattle.btor2.specs.Op.{Bin, add, sub, mul, udiv, sdiv, urem, sll, srl, ult, Op, const, read, write, bin, uext, ite, eq, and, or, not, state, state_init, next, input, bad, unknown, bin_sort}
use Rattle.btor2_list.specs.declared.Line.{Line}
use Rattle.btor2_list.specs.NameBytes.{name_bytes}
use Rattle.text.specs.Ascii.{ascii}
use Rattle.row_text.specs.Row.{row_text}

-- `writeln!(out, "{} WORD {} ..", nid, numbers ..)`, and with one number and a name
abbrev pub plain_row : ℕ → String → List ℕ → List ℕ
plain_row nid word numbers = row_text nid (ascii word) numbers false []

abbrev pub named_row : ℕ → String → ℕ → List ℕ → List ℕ
named_row nid word number name = row_text nid (ascii word) (number ∷ []) true name

abbrev pub bin_word : Bin → String
bin_word add = "add"
bin_word sub = "sub"
bin_word mul = "mul"
bin_word udiv = "udiv"
bin_word sdiv = "sdiv"
bin_word urem = "urem"
bin_word sll = "sll"
bin_word srl = "srl"
bin_word ult = "ult"

-- `names` gives what is printed for a name. The Rust prints uext's operand `as u32` and an init's identifier as a sum of u64: for
-- identifiers that pass refusal 9 the one changes nothing and the other does not wrap (crates/print/proofs/Identifiers). A line of unknown
-- kind or sort has no text; it is refused with 11, and so is a uext from Memory, at which the Rust panics.
unfoldable pub line_text : (Name → List ℕ) → ℕ → Op ℕ → List ℕ
line_text names nid (const s imm) = plain_row nid "constd" (sort_number s ∷ imm ∷ [])
line_text names nid (read m a) = plain_row nid "read" (2 ∷ m ∷ a ∷ [])
line_text names nid (write m a v) = plain_row nid "write" (3 ∷ m ∷ a ∷ v ∷ [])
line_text names nid (bin o a b) = plain_row nid (bin_word o) (sort_number (bin_sort o) ∷ a ∷ b ∷ [])
line_text names nid (uext from a) = plain_row nid "uext" (2 ∷ a ∷ (64 - width from) ∷ [])
line_text names nid (ite s c a b) = plain_row nid "ite" (sort_number s ∷ c ∷ a ∷ b ∷ [])
line_text names nid (eq a b) = plain_row nid "eq" (1 ∷ a ∷ b ∷ [])
line_text names nid (and s a b) = plain_row nid "and" (sort_number s ∷ a ∷ b ∷ [])
line_text names nid (or s a b) = plain_row nid "or" (sort_number s ∷ a ∷ b ∷ [])
line_text names nid (not s a) = plain_row nid "not" (sort_number s ∷ a ∷ [])
line_text names nid (state s m) = named_row nid "state" (sort_number s) (names m)
line_text names nid (state_init s a m) =
    named_row nid "state" (sort_number s) (names m) ++ plain_row ((nid + 1) % 2 ^ 64) "init" (sort_number s ∷ nid ∷ a ∷ [])
line_text names nid (next s a b) = plain_row nid "next" (sort_number s ∷ a ∷ b ∷ [])
line_text names nid (input s m) = named_row nid "input" (sort_number s) (names m)
line_text names nid (bad a m) = named_row nid "bad" a (names m)
line_text names nid unknown = []

-- "A missing name prints `?`"; another one is printed as the very bytes of its area
unfoldable pub printed_name : List ℕ → List ℕ → Name → List ℕ
printed_name host ours name = cond (name.area == 1 || name.area == 2) (name_bytes host ours name) (ascii "?")

-- a record whose operands are the identifiers a, b and c
abbrev pub with_operands : Line → ℕ → ℕ → ℕ → Line
with_operands l a b c = record {
  nid = l.nid;
  kind = l.kind;
  sort = l.sort;
  op1 = record { 0 = a };
  op2 = record { 0 = b };
  op3 = record { 0 = c };
  imm = l.imm;
  name = l.name;
  address = l.address;
}
