-- The bench (document 02, R-2): the value of a line on given values, with the visits that it takes. What looking at a line comes to is told from
-- what looking at its operands comes to, as its value and its sort are (btor2/specs/Walk).
use Rattle.std.specs.Prelude.{ℕ, ◌+◌, Bool, cond, ◌||◌, List, [], ltb, eqb, get_or}
use Rattle.std.proofs.Math.Bool as B
use Rattle.bitvec.specs.Smtlib.{bvnot, bvand, bvor, bvcomp, zero_extend}
use Rattle.bitvec.specs.Smtlib as Smt
use Rattle.btor2.specs.declared.NodeType.TheVariants.{Bit, Word}
use Rattle.btor2.specs.Sort.{width}
use Rattle.btor2.specs.Op.{Op, map_op, carried, const, read, write, bin, uext, ite, eq, and, or, not, state, state_init, next, input, bad, unknown}
use Rattle.btor2.specs.Walk.{walk}
use Rattle.btor2.specs.SortRule.{has_sort, Judged, judge, no_line}
use Rattle.btor2.specs.Value.{Env, of_sort, binary}
use Rattle.btor2.specs.Value as Val
use Rattle.btor2_list.specs.View.{view}
use Rattle.list_check.specs.Lines.{ops, op_at}
use Rattle.list_check.specs.Broken.{broken_words}
use Rattle.evaluation.specs.Given.{given_env}
use Rattle.evaluation.specs.Answer.{Evaluated, Refused, Value}

-- what comes after a value x and a count n of visits; a refusal ends all
unfoldable pub after_value : Evaluated → (ℕ → ℕ → Evaluated) → Evaluated
after_value (Value x n) after = after x n
after_value (Refused r) after = Refused r

-- what looking at a line comes to, from a count of visits on: the number of a bit-vector, and the word of an array at an address
pub record Look : Type 0 where
  pub num : ℕ → Evaluated
  pub cell : ℕ → ℕ → Evaluated

-- A bit-vector has no words and an array no number: these stand at 0, as in btor2/specs/Value. Where a line meets the sort rule, no operand of
-- it is asked for them.
abbrev pub of_number : (ℕ → Evaluated) → Look
of_number f = record { num = f; cell = λ a n. Value 0 n }

abbrev pub of_cells : (ℕ → ℕ → Evaluated) → Look
of_cells f = record { num = λ n. Value 0 n; cell = f }

-- a value that is there without a further look
abbrev pub there : Val.Value → Look
there v = record { num = λ n. Value v.num n; cell = λ a n. Value (v.mem a) n }

-- what a line is to a later one and whether it meets the sort rule (btor2/specs/SortRule), and what a visit of it comes to
pub record Looks : Type 0 where
  pub judged : Judged
  pub num : ℕ → Evaluated
  pub cell : ℕ → ℕ → Evaluated

-- "Operands are looked at in printed order": a value of one operand, and of two
unfoldable pub one : (ℕ → ℕ) → Looks → Look
one f a = of_number (λ n. after_value (a.num n) (λ x k. Value (f x) k))

unfoldable pub both : (ℕ → ℕ → ℕ) → Looks → Looks → Look
both f a b = of_number (λ n. after_value (a.num n) (λ x k. after_value (b.num k) (λ y m. Value (f x y) m)))

-- the line at place p, once it is visited
unfoldable pub look_of : Env → ℕ → Op Looks → Look
look_of env p (const s x) = there (Val.number x)
-- "a read or write its address before its memory"
look_of env p (read m a) = of_number (λ n. after_value (a.num n) (λ x k. m.cell x k))
-- "and a write its value only where it covers the cell. A memory cell is found by walking back to the newest write that covers it."
look_of env p (write m a v) = of_cells (λ c n. after_value (a.num n) (λ x k. cond (eqb c x) (v.num k) (m.cell c k)))
look_of env p (bin o a b) = both (binary o) a b
look_of env p (uext s a) = one zero_extend a
-- "but an ite takes only the chosen branch"
look_of env p (ite s c a b) = record {
  num = λ n. after_value (c.num n) (λ x k. Smt.ite x (a.num k) (b.num k));
  cell = λ d n. after_value (c.num n) (λ x k. Smt.ite x (a.cell d k) (b.cell d k));
}
look_of env p (eq a b) = both bvcomp a b
look_of env p (and s a b) = both bvand a b
look_of env p (or s a b) = both bvor a b
look_of env p (not s a) = one (bvnot (width s)) a
-- "A state or input without a value is 0, and a value too wide is taken modulo 2 to its width", "an init isn't used"
look_of env p (state s m) = there (of_sort s (env p))
look_of env p (state_init s a m) = there (of_sort s (env p))
look_of env p (input s m) = there (of_sort s (env p))
-- these carry no value
look_of env p (next s a b) = there (Val.number 0)
look_of env p (bad a m) = there (Val.number 0)
look_of env p unknown = there (Val.number 0)

-- refusals 17 to 19
abbrev pub ill_sorted : ℕ
ill_sorted = 17

abbrev pub too_many_visits : ℕ
too_many_visits = 18

abbrev pub unfit_asked : ℕ
unfit_asked = 19

-- a visit, after n others, of a line that meets the sort rule or not: "with 18 when a visit would pass the limit, tested before that node is
-- looked at, and with 17 when that node breaks the sort rule"
abbrev pub visit : ℕ → Bool → (ℕ → Evaluated) → ℕ → Evaluated
visit limit right look n = cond (ltb n limit) (cond right (look (n + 1)) (Refused ill_sorted)) (Refused too_many_visits)

unfoldable pub looks_of : ℕ → Env → ℕ → Op Looks → Looks
looks_of limit env p o =
    let j = judge p (map_op (λ l. l.judged) o) in
    let l = look_of env p o in
    record { judged = j; num = visit limit j.right l.num; cell = λ a. visit limit j.right (l.cell a) }

-- no earlier line
abbrev pub no_looks : Looks
no_looks = record { judged = no_line; num = λ n. Value 0 n; cell = λ a n. Value 0 n }

unfoldable pub looks : ℕ → Env → List (Op ℕ) → List Looks
looks limit env xs = walk Looks no_looks (looks_of limit env) [] xs

-- of the line at place p
abbrev pub looks_at : ℕ → Env → List (Op ℕ) → ℕ → Looks
looks_at limit env xs p = get_or (looks limit env xs) p no_looks

-- "a list of up to 4,096 lines"
abbrev pub bench_lines : ℕ
bench_lines = 4096

-- "19 a longer list or one above its storage, an unknown kind or sort or a broken operand anywhere in it, or an asked node that isn't a value
-- line of sort Bit or Word": the first n lines of the lent words, the node at a place
unfoldable pub unfit : List ℕ → ℕ → ℕ → Bool
unfit ws n asked =
    let s = carried (op_at (ops (view ws n)) asked) in
    ltb bench_lines n || (broken_words ws n || B.not (has_sort Bit s || has_sort Word s))

-- the answer within a limit of visits: of the first n lines of the lent words, under the records of values vs and of memory ms, for the node
-- at a place
unfoldable pub evaluated_within : ℕ → List ℕ → ℕ → List ℕ → List ℕ → ℕ → Evaluated
evaluated_within limit ws n vs ms asked = cond (unfit ws n asked) (Refused unfit_asked) ((looks_at limit (given_env vs ms) (ops (view ws n)) asked).num 0)

-- "at most 100,000"
abbrev pub most_visits : ℕ
most_visits = 100000

abbrev pub evaluated : List ℕ → ℕ → List ℕ → List ℕ → ℕ → Evaluated
evaluated ws n vs ms asked = evaluated_within most_visits ws n vs ms asked
