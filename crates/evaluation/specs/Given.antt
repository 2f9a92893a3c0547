-- What states and inputs are (document 02, R-2): "values for states and inputs, and memory as records of node, address and word (the first for
-- a node, or node and address, counts, a missing one reads 0, an init isn't used)". A node is named by its place. Words after the last whole
-- record are none.
use Rattle.std.specs.Prelude.{ℕ, ◌/◌, Bool, ◌&&◌, List, eqb, length, get_or}
use Rattle.btor2.specs.Value.{Env}
use Rattle.btor2_list.specs.Records.{records_in, first_given}

-- a record of a value: node, value
pub record NodeValue : Type 0 where
  pub node : ℕ
  pub value : ℕ

abbrev pub value_stride : ℕ
value_stride = 2

abbrev pub value_in : List ℕ → NodeValue
value_in ws = record { node = get_or ws 0 0; value = get_or ws 1 0 }

-- a record of memory: node, address, word
pub record NodeCell : Type 0 where
  pub node : ℕ
  pub address : ℕ
  pub word : ℕ

abbrev pub cell_stride : ℕ
cell_stride = 3

abbrev pub cell_in : List ℕ → NodeCell
cell_in ws = record { node = get_or ws 0 0; address = get_or ws 1 0; word = get_or ws 2 0 }

-- "the first for a node [..] counts, a missing one reads 0"
abbrev pub for_node : ℕ → NodeValue → Bool
for_node p x = eqb x.node p

abbrev pub given_value : List ℕ → ℕ → ℕ
given_value ws p = first_given 0 (for_node p) (λ x. x.value) (records_in value_stride value_in (length ws / value_stride) ws)

-- "or node and address"
abbrev pub for_cell : ℕ → ℕ → NodeCell → Bool
for_cell p a x = eqb x.node p && eqb x.address a

abbrev pub given_cell : List ℕ → ℕ → ℕ → ℕ
given_cell ws p a = first_given 0 (for_cell p a) (λ x. x.word) (records_in cell_stride cell_in (length ws / cell_stride) ws)

-- any numbers for the states and inputs: `value` (btor2/specs/Value) takes each modulo 2 to the width of its line's sort
abbrev pub given_env : List ℕ → List ℕ → Env
given_env vs ms p = record { num = given_value vs p; mem = given_cell ms p }
