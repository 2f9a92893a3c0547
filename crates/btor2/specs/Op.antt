-- BTOR2 node lines, over any type A of operands: what a line says, without its identifier. The 22 kinds are those of
-- unicorn's `Node` other than Comment, under BTOR2's names (CAV 2018 paper, its table of operators).
use Rattle.std.specs.Prelude.{ℕ, Bool, true, false, cond, Option, Some, None}
use Rattle.btor2.specs.declared.Name.{Name}
use Rattle.btor2.specs.declared.NodeType.{NodeType}
use Rattle.btor2.specs.declared.NodeType.TheVariants.{Bit, Word, Memory}

-- the operators on two words; `Node` calls udiv, sdiv and urem Divu, Div and Rem
pub data Bin : Type 0 where
  add sub mul udiv sdiv urem sll srl ult : Bin

-- uext has the sort that it extends from. A State with an init is state_init. `unknown` is a record of no known kind or sort.
pub data Op (A : Type 0) : Type 0 where
  const : NodeType → ℕ → Op A
  read : A → A → Op A
  write : A → A → A → Op A
  bin : Bin → A → A → Op A
  uext : NodeType → A → Op A
  ite : NodeType → A → A → A → Op A
  eq : A → A → Op A
  and or : NodeType → A → A → Op A
  not : NodeType → A → Op A
  state : NodeType → Name → Op A
  state_init : NodeType → A → Name → Op A
  next : NodeType → A → A → Op A
  input : NodeType → Name → Op A
  bad : A → Name → Op A
  unknown : Op A

-- the same line with each operand seen through f
unfoldable pub map_op : {A B : Type 0} → (A → B) → Op A → Op B
map_op f (const s n) = const s n
map_op f (read m a) = read (f m) (f a)
map_op f (write m a v) = write (f m) (f a) (f v)
map_op f (bin o a b) = bin o (f a) (f b)
map_op f (uext s a) = uext s (f a)
map_op f (ite s c a b) = ite s (f c) (f a) (f b)
map_op f (eq a b) = eq (f a) (f b)
map_op f (and s a b) = and s (f a) (f b)
map_op f (or s a b) = or s (f a) (f b)
map_op f (not s a) = not s (f a)
map_op f (state s m) = state s m
map_op f (state_init s a m) = state_init s (f a) m
map_op f (next s a b) = next s (f a) (f b)
map_op f (input s m) = input s m
map_op f (bad a m) = bad (f a) m
map_op f unknown = unknown

abbrev pub bin_sort : Bin → NodeType
bin_sort add = Word
bin_sort sub = Word
bin_sort mul = Word
bin_sort udiv = Word
bin_sort sdiv = Word
bin_sort urem = Word
bin_sort sll = Word
bin_sort srl = Word
bin_sort ult = Bit

-- the sort of the value that a line carries: Next, Bad and unknown lines carry none
unfoldable pub carried : {A : Type 0} → Op A → Option NodeType
carried (const s n) = Some s
carried (read m a) = Some Word
carried (write m a v) = Some Memory
carried (bin o a b) = Some (bin_sort o)
carried (uext s a) = Some Word
carried (ite s c a b) = Some s
carried (eq a b) = Some Bit
carried (and s a b) = Some s
carried (or s a b) = Some s
carried (not s a) = Some s
carried (state s m) = Some s
carried (state_init s a m) = Some s
carried (next s a b) = None
carried (input s m) = Some s
carried (bad a m) = None
carried unknown = None

abbrev pub has_init : {A : Type 0} → Op A → Bool
has_init (const s n) = false
has_init (read m a) = false
has_init (write m a v) = false
has_init (bin o a b) = false
has_init (uext s a) = false
has_init (ite s c a b) = false
has_init (eq a b) = false
has_init (and s a b) = false
has_init (or s a b) = false
has_init (not s a) = false
has_init (state s m) = false
has_init (state_init s a m) = true
has_init (next s a b) = false
has_init (input s m) = false
has_init (bad a m) = false
has_init unknown = false

-- how many identifiers a line takes (document 01, port order 1): "a State with an init takes two identifiers"
abbrev pub identifiers : {A : Type 0} → Op A → ℕ
identifiers o = cond (has_init o) 2 1
