-- The sort rule (document 01, "Start, storage, evaluation", after the BTOR2 paper): a test over a list of lines.
use Rattle.std.specs.Prelude.{ℕ, ◌^◌, Bool, true, false, ◌&&◌, ◌||◌, List, [], ◌∷◌, ltb, Option, Some, None}
use Rattle.std.proofs.Math.Bool as B
use Rattle.btor2.specs.declared.NodeType.{NodeType}
use Rattle.btor2.specs.declared.NodeType.TheVariants.{Bit, Word, Memory}
use Rattle.btor2.specs.Sort.{width, same_sort}
use Rattle.btor2.specs.Op.{Op, const, read, write, bin, uext, ite, eq, and, or, not, state, state_init, next, input, bad, unknown, map_op, carried}
use Rattle.btor2.specs.Walk.{walk}

-- what a line is to a later line that names it: the sort that it carries, and whether it is a State
pub record Mark : Type 0 where
  pub sort : Option NodeType
  pub is_state : Bool

abbrev pub has_sort : NodeType → Option NodeType → Bool
has_sort s (Some t) = same_sort s t
has_sort s None = false

-- a value line of sort s
abbrev pub is : NodeType → Mark → Bool
is s m = has_sort s m.sort

abbrev pub bit_or_word : NodeType → Bool
bit_or_word s = same_sort s Bit || same_sort s Word

-- the rule of one line, from what its operands are
unfoldable pub rule : Op Mark → Bool
-- "Const fits its sort and isn't Memory"
rule (const s n) = B.not (same_sort s Memory) && ltb n (2 ^ width s)
-- "reads and writes on a Memory with Word addresses and values"
rule (read m a) = is Memory m && is Word a
rule (write m a v) = is Memory m && (is Word a && is Word v)
-- "Ult on Words, itself Bit; other operators on Words"
rule (bin o a b) = is Word a && is Word b
-- "Ext takes a value of its `from`, Bit or an input sort"
rule (uext s a) = B.not (same_sort s Word || same_sort s Memory) && is s a
-- "Ite has a Bit condition and branches of its sort"
rule (ite s c a b) = is Bit c && (is s a && is s b)
-- "Eq on two Bits or two Words, itself Bit"
rule (eq a b) = (is Bit a && is Bit b) || (is Word a && is Word b)
-- "And, Or, Not work on Bit or Word, operands and result alike"
rule (and s a b) = bit_or_word s && (is s a && is s b)
rule (or s a b) = bit_or_word s && (is s a && is s b)
rule (not s a) = bit_or_word s && is s a
-- "State's init has its sort, or Word for Memory"
rule (state s m) = true
rule (state_init s a m) = is s a || (same_sort s Memory && is Word a)
-- "Next joins a State and a value of its sort"
rule (next s a b) = a.is_state && (is s a && is s b)
rule (input s m) = true
-- "Bad takes Bit"
rule (bad a m) = is Bit a
rule unknown = false

unfoldable pub is_state_op : {A : Type 0} → Op A → Bool
is_state_op (const s n) = false
is_state_op (read m a) = false
is_state_op (write m a v) = false
is_state_op (bin o a b) = false
is_state_op (uext s a) = false
is_state_op (ite s c a b) = false
is_state_op (eq a b) = false
is_state_op (and s a b) = false
is_state_op (or s a b) = false
is_state_op (not s a) = false
is_state_op (state s m) = true
is_state_op (state_init s a m) = true
is_state_op (next s a b) = false
is_state_op (input s m) = false
is_state_op (bad a m) = false
is_state_op unknown = false

abbrev pub mark_of : {A : Type 0} → Op A → Mark
mark_of o = record { sort = carried o; is_state = is_state_op o }

-- a line's mark, and whether the line meets the rule
pub record Judged : Type 0 where
  pub mark : Mark
  pub right : Bool

unfoldable pub judge : ℕ → Op Judged → Judged
judge p o = record { mark = mark_of o; right = rule (map_op (λ j. j.mark) o) }

-- no earlier line
abbrev pub no_line : Judged
no_line = record { mark = record { sort = None; is_state = false }; right = false }

unfoldable pub judged : List (Op ℕ) → List Judged
judged xs = walk Judged no_line judge [] xs

unfoldable pub all_right : List Judged → Bool
all_right [] = true
all_right (j ∷ js) = j.right && all_right js

-- every line meets the sort rule; "an operand is an earlier line other than Next and Bad"
unfoldable pub meets_sort_rule : List (Op ℕ) → Bool
meets_sort_rule xs = all_right (judged xs)
