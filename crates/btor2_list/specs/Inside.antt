-- What only private contracts cite.
use Rattle.std.specs.Prelude.{◌≡◌, ℕ, ◌<◌, true, cond, List, [], ◌∷◌, ◌++◌, eqb, replicate, Option, None}
use Rattle.btor2.specs.declared.NodeType.{NodeType}
use Rattle.btor2.specs.Op.{Op, const, uext, ite, and, or, not, state, state_init, next, input, unknown}
use Rattle.btor2_list.specs.declared.Line.{Line}
use Rattle.btor2_list.specs.Kinds.{const_kind}
use Rattle.btor2_list.specs.Record.{stride, word, holds}
use Rattle.btor2_list.specs.Node.{operator_at, with_sort}

-- a record without its address
abbrev pub unaddressed : Line → Line
unaddressed l = record { nid = l.nid; kind = l.kind; sort = l.sort; op1 = l.op1; op2 = l.op2; op3 = l.op3; imm = l.imm; name = l.name; address = None }

-- what a record says of the kinds that have a sort of their own, s; the others, the eleven from read to ult, and eq and bad, are unknown
abbrev pub sorted_by_kind : Option NodeType → Line → List (Op ℕ)
sorted_by_kind s l =
    let a = l.op1.0 in
    let b = l.op2.0 in
    let sorted = with_sort s in
    sorted (λ s. const s l.imm)
    ∷ replicate 11 unknown
    ++ (sorted (λ s. uext s a)
    ∷ sorted (λ s. ite s a b l.op3.0)
    ∷ unknown
    ∷ sorted (λ s. and s a b)
    ∷ sorted (λ s. or s a b)
    ∷ sorted (λ s. not s a)
    ∷ sorted (λ s. cond (eqb l.imm 0) (state s l.name) (state_init s a l.name))
    ∷ sorted (λ s. next s a b)
    ∷ sorted (λ s. input s l.name)
    ∷ [])

abbrev pub sorted_op : Option NodeType → Line → Op ℕ
sorted_op s l = operator_at (sorted_by_kind s l) const_kind l.kind

-- the words are those of the record at place p, which the list's words reach over
pub record IsRecord (ws : List ℕ) (p : ℕ) (record-words : List ℕ) : Type 0 where
  pub there : holds ws p ≡ true
  pub same : (k : ℕ) → k < stride → word ws p k ≡ word record-words 0 k
