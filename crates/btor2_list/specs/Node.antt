-- What a record says: a line's identifier, its operator, whose operands are places, and the address of its instruction, if it has one.
use Rattle.std.specs.Prelude.{ℕ, cond, List, [], ◌∷◌, eqb, Option, Some, None}
use Rattle.btor2.specs.declared.Name.{Name}
use Rattle.btor2.specs.declared.NodeType.{NodeType}
use Rattle.btor2.specs.Sort.{sort_number, sort_numbered}
use Rattle.btor2.specs.Op.{Bin, add, sub, mul, udiv, sdiv, urem, sll, srl, ult, Op, const, read, write, bin, uext, ite, eq, and, or, not, state, state_init, next, input, bad, unknown, bin_sort}
use Rattle.btor2_list.specs.Kinds.{const_kind, read_kind, write_kind, add_kind, sub_kind, mul_kind, udiv_kind, sdiv_kind, urem_kind, sll_kind, srl_kind, ult_kind, uext_kind, ite_kind, eq_kind, and_kind, or_kind, not_kind, state_kind, next_kind, input_kind, bad_kind}
use Rattle.btor2_list.specs.declared.Line.{Line}

pub record Node : Type 0 where
  pub nid : ℕ
  pub op : Op ℕ
  pub address : Option ℕ

abbrev pub node : Option ℕ → ℕ → Op ℕ → Node
node address nid o = record { nid = nid; op = o; address = address }

-- where there is no line
abbrev pub no_node : Node
no_node = node None 0 unknown

-- ---- the record that is written for a line

abbrev pub no_name : Name
no_name = record { area = 0; at = 0; len = 0 }

-- the address of its instruction, if it has one, then the fields in their order: identifier, kind, sort as printed (for uext the one it extends from),
-- operands, constant, name
abbrev pub row : Option ℕ → ℕ → ℕ → ℕ → ℕ → ℕ → ℕ → ℕ → Name → Line
row address nid kind sort op1 op2 op3 imm name = record {
  nid = record { 0 = nid };
  kind = kind;
  sort = sort;
  op1 = record { 0 = op1 };
  op2 = record { 0 = op2 };
  op3 = record { 0 = op3 };
  imm = imm;
  name = name;
  address = address;
}

abbrev pub bin_kind : Bin → ℕ
bin_kind add = add_kind
bin_kind sub = sub_kind
bin_kind mul = mul_kind
bin_kind udiv = udiv_kind
bin_kind sdiv = sdiv_kind
bin_kind urem = urem_kind
bin_kind sll = sll_kind
bin_kind srl = srl_kind
bin_kind ult = ult_kind

abbrev pub line_of : Option ℕ → ℕ → Op ℕ → Line
line_of address nid (const s n) = row address nid const_kind (sort_number s) 0 0 0 n no_name
line_of address nid (read m a) = row address nid read_kind 2 m a 0 0 no_name
line_of address nid (write m a v) = row address nid write_kind 3 m a v 0 no_name
line_of address nid (bin o a b) = row address nid (bin_kind o) (sort_number (bin_sort o)) a b 0 0 no_name
line_of address nid (uext s a) = row address nid uext_kind (sort_number s) a 0 0 0 no_name
line_of address nid (ite s c a b) = row address nid ite_kind (sort_number s) c a b 0 no_name
line_of address nid (eq a b) = row address nid eq_kind 1 a b 0 0 no_name
line_of address nid (and s a b) = row address nid and_kind (sort_number s) a b 0 0 no_name
line_of address nid (or s a b) = row address nid or_kind (sort_number s) a b 0 0 no_name
line_of address nid (not s a) = row address nid not_kind (sort_number s) a 0 0 0 no_name
line_of address nid (state s m) = row address nid state_kind (sort_number s) 0 0 0 0 m
line_of address nid (state_init s a m) = row address nid state_kind (sort_number s) a 0 0 1 m
line_of address nid (next s a b) = row address nid next_kind (sort_number s) a b 0 0 no_name
line_of address nid (input s m) = row address nid input_kind (sort_number s) 0 0 0 0 m
line_of address nid (bad a m) = row address nid bad_kind 0 a 0 0 0 m
line_of address nid unknown = row address nid 0 0 0 0 0 0 no_name

-- ---- what a record is read as

-- the operator at a number, in a table that starts at a number
abbrev pub operator_at : List (Op ℕ) → ℕ → ℕ → Op ℕ
operator_at [] from n = unknown
operator_at (o ∷ os) from n = cond (eqb n from) o (operator_at os (ℕ.suc from) n)

abbrev pub with_sort : Option NodeType → (NodeType → Op ℕ) → Op ℕ
with_sort (Some s) f = f s
with_sort None f = unknown

-- what a record of each kind says, where its sort is s; the fields that a kind does not use are not looked at
abbrev pub operators_by_kind : Option NodeType → Line → List (Op ℕ)
operators_by_kind s l =
    let a = l.op1.0 in
    let b = l.op2.0 in
    let c = l.op3.0 in
    let m = l.name in
    let sorted = with_sort s in
    sorted (λ s. const s l.imm)
    ∷ read a b
    ∷ write a b c
    ∷ bin add a b
    ∷ bin sub a b
    ∷ bin mul a b
    ∷ bin udiv a b
    ∷ bin sdiv a b
    ∷ bin urem a b
    ∷ bin sll a b
    ∷ bin srl a b
    ∷ bin ult a b
    ∷ sorted (λ s. uext s a)
    ∷ sorted (λ s. ite s a b c)
    ∷ eq a b
    ∷ sorted (λ s. and s a b)
    ∷ sorted (λ s. or s a b)
    ∷ sorted (λ s. not s a)
    ∷ sorted (λ s. cond (eqb l.imm 0) (state s m) (state_init s a m))
    ∷ sorted (λ s. next s a b)
    ∷ sorted (λ s. input s m)
    ∷ bad a m
    ∷ []

unfoldable pub op_of : Line → Op ℕ
op_of l = operator_at (operators_by_kind (sort_numbered l.sort) l) const_kind l.kind

abbrev pub node_of : Line → Node
node_of l = node l.address l.nid.0 (op_of l)
