-- The value of a line: BTOR2's operators, which mean what SMT-LIB's bit-vectors and arrays say (CAV 2018 paper, its table of operators). States and
-- inputs take any value of their sort; no init and no Next is used (document 01, "Start, storage, evaluation").
use Rattle.std.specs.Prelude.{ℕ, ◌%◌, ◌^◌, cond, List, [], get_or}
use Rattle.bitvec.specs.Smtlib.{bvnot, bvand, bvor, bvadd, bvsub, bvmul, bvudiv, bvurem, bvsdiv, bvshl, bvlshr, bvult, bvcomp, zero_extend}
use Rattle.bitvec.specs.Smtlib as Smt
use Rattle.btor2.specs.declared.NodeType.{NodeType}
use Rattle.btor2.specs.declared.NodeType.TheVariants.{Memory}
use Rattle.btor2.specs.Sort.{width, same_sort}
use Rattle.btor2.specs.Op.{Bin, add, sub, mul, udiv, sdiv, urem, sll, srl, ult, Op, const, read, write, bin, uext, ite, eq, and, or, not, state, state_init, next, input, bad, unknown}
use Rattle.btor2.specs.Walk.{walk}

-- a bit-vector's number, or the word that an array has at each address
pub record Value : Type 0 where
  pub num : ℕ
  pub mem : ℕ → ℕ

abbrev pub number : ℕ → Value
number n = record { num = n; mem = λ a. 0 }

abbrev pub array : (ℕ → ℕ) → Value
array f = record { num = 0; mem = f }

-- SMT-LIB's select and store
abbrev pub select : (ℕ → ℕ) → ℕ → ℕ
select m a = m a

abbrev pub store : (ℕ → ℕ) → ℕ → ℕ → ℕ → ℕ
store m a v x = Smt.ite (bvcomp x a) v (m x)

-- the operators on words
unfoldable pub binary : Bin → ℕ → ℕ → ℕ
binary add x y = bvadd 64 x y
binary sub x y = bvsub 64 x y
binary mul x y = bvmul 64 x y
binary udiv x y = bvudiv 64 x y
binary sdiv x y = bvsdiv 64 x y
binary urem x y = bvurem x y
binary sll x y = bvshl 64 x y
binary srl x y = bvlshr 64 x y
binary ult x y = bvult x y

-- what states and inputs are, by place in the list
abbrev pub Env : Type 0
Env = ℕ → Value

-- any value, made one of a sort
abbrev pub of_sort : NodeType → Value → Value
of_sort s v = cond (same_sort s Memory) (array (λ a. v.mem a % 2 ^ 64)) (number (v.num % 2 ^ width s))

-- the value of the line at place p, from those of its operands; next, bad and unknown lines have none, and stand at 0
unfoldable pub eval_op : Env → ℕ → Op Value → Value
eval_op env p (const s n) = number n
eval_op env p (read m a) = number (select m.mem a.num)
eval_op env p (write m a v) = array (store m.mem a.num v.num)
eval_op env p (bin o a b) = number (binary o a.num b.num)
eval_op env p (uext s a) = number (zero_extend a.num)
eval_op env p (ite s c a b) = Smt.ite c.num a b
eval_op env p (eq a b) = number (bvcomp a.num b.num)
eval_op env p (and s a b) = number (bvand a.num b.num)
eval_op env p (or s a b) = number (bvor a.num b.num)
eval_op env p (not s a) = number (bvnot (width s) a.num)
eval_op env p (state s m) = of_sort s (env p)
eval_op env p (state_init s a m) = of_sort s (env p)
eval_op env p (next s a b) = number 0
eval_op env p (input s m) = of_sort s (env p)
eval_op env p (bad a m) = number 0
eval_op env p unknown = number 0

unfoldable pub values : Env → List (Op ℕ) → List Value
values env xs = walk Value (number 0) (eval_op env) [] xs

-- the value of the line at place p of a list
unfoldable pub value : Env → List (Op ℕ) → ℕ → Value
value env xs p = get_or (values env xs) p (number 0)
