-- What a join is given, in lent words.
use Rattle.std.specs.Prelude.{ℕ, ◌-◌, ◌^◌, Bool, cond, List, eqb, get_or}
use Rattle.edges.specs.Edges.{edge_stride, dispatch_stride}
use Rattle.btor2_list.specs.Records.{records_in, first_given}
use Rattle.join.specs.Program.{Edge, Dispatch}

-- an edge is four words: to, from, origin, condition; `to` is not looked at
abbrev pub edge_in : List ℕ → Edge ℕ
edge_in ws = record { from = get_or ws 1 0; origin = get_or ws 2 0; condition = get_or ws 3 0 }

abbrev pub edges_in : ℕ → List ℕ → List (Edge ℕ)
edges_in n ws = records_in edge_stride edge_in n ws

-- a dispatch is two: register, and the place of the address node
abbrev pub dispatch_in : List ℕ → Dispatch ℕ
dispatch_in ws = record { register = get_or ws 0 0; address = get_or ws 1 0 }

abbrev pub dispatches_in : ℕ → List ℕ → List (Dispatch ℕ)
dispatches_in n ws = records_in dispatch_stride dispatch_in n ws

-- no flag: a place that no list reaches
abbrev pub no_flag : ℕ
no_flag = 2 ^ 64 - 1

-- an entry of the table of flags is two words: address, and the place of its flag
pub record Flag : Type 0 where
  pub address : ℕ
  pub place : ℕ

abbrev pub flag_stride : ℕ
flag_stride = 2

abbrev pub flag_in : List ℕ → Flag
flag_in ws = record { address = get_or ws 0 0; place = get_or ws 1 0 }

abbrev pub flags_in : ℕ → List ℕ → List Flag
flags_in n ws = records_in flag_stride flag_in n ws

-- "The first flag given for an address counts"
abbrev pub for_address : ℕ → Flag → Bool
for_address address x = eqb x.address address

abbrev pub flag_for : List Flag → ℕ → ℕ
flag_for xs address = first_given no_flag (for_address address) (λ x. x.place) xs

-- the dynamic flags are those of x1 to x31; one that is not there is no flag
abbrev pub dynamic_count : ℕ
dynamic_count = 31

abbrev pub dynamics_in : List ℕ → List ℕ
dynamics_in ws = records_in 1 (λ rest. get_or rest 0 no_flag) dynamic_count ws

abbrev pub dynamic_for : List ℕ → ℕ → ℕ
dynamic_for ws r = cond (eqb r 0) no_flag (get_or ws (r - 1) no_flag)
