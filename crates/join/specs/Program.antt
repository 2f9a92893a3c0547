-- One address's edges, then its dispatches, joined into its flag: the loops of unicorn's `generate_model` over `control_flow_from_*`, over any
-- type A of places.
use Rattle.std.specs.Prelude.{ℕ, ◌+◌, cond, List, [], ◌∷◌, ◌++◌, eqb, length}
use Rattle.edges.specs.Edges.{branch_origin, syscall_origin}
use Rattle.builder.specs.Prog.{Prog, done, ◌>>=◌}
use Rattle.join.specs.FlagName.{flag_name, name_at}
use Rattle.join.specs.ControlFlow.{Bits, Kernel, control_flow_from_regular, control_flow_from_branch, control_flow_from_ecall, control_flow_from_jalr}

-- what is looked at of an edge, and of a dispatch
pub record Edge (A : Type 0) : Type 0 where
  pub from : ℕ
  pub origin : ℕ
  pub condition : A

pub record Dispatch (A : Type 0) : Type 0 where
  pub register : ℕ
  pub address : A

-- the bytes that an edge puts into our name area: the name of a syscall edge's State
abbrev pub edge_name : ℕ → ℕ → List ℕ
edge_name origin from = cond (eqb origin syscall_origin) (flag_name from) []

-- those of edges, one after the other
unfoldable pub names_of : {A : Type 0} → List (Edge A) → List ℕ
names_of [] = []
names_of (x ∷ xs) = edge_name x.origin x.from ++ names_of xs

-- how many Nexts an edge appends, and edges append
abbrev pub nexts_by : ℕ → ℕ
nexts_by origin = cond (eqb origin syscall_origin) 1 0

unfoldable pub nexts_of : {A : Type 0} → List (Edge A) → ℕ
nexts_of [] = 0
nexts_of (x ∷ xs) = nexts_by x.origin + nexts_of xs

module _ {A : Type 0} where
  -- by its origin; `at` bytes of our name area are in use
  unfoldable pub from_edge : Bits A → Kernel A → (ℕ → A) → ℕ → Edge A → A → Prog A A
  from_edge b k flag_of at x flow =
      cond (eqb x.origin branch_origin) (control_flow_from_branch b (flag_of x.from) x.condition flow)
      (cond (eqb x.origin syscall_origin) (control_flow_from_ecall b k (flag_of x.from) (name_at at x.from) flow) (control_flow_from_regular b (flag_of x.from) flow))

  unfoldable pub join_edges : Bits A → Kernel A → (ℕ → A) → ℕ → List (Edge A) → A → Prog A A
  join_edges b k flag_of at [] flow = done flow
  join_edges b k flag_of at (x ∷ xs) flow = do
    f ← from_edge b k flag_of at x flow
    join_edges b k flag_of (at + length (edge_name x.origin x.from)) xs f

  unfoldable pub join_dispatches : Bits A → (ℕ → A) → (ℕ → A) → List (Dispatch A) → A → Prog A A
  join_dispatches b registers dynamics [] flow = done flow
  join_dispatches b registers dynamics (x ∷ xs) flow = do
    f ← control_flow_from_jalr b (registers x.register) (dynamics x.register) x.address flow
    join_dispatches b registers dynamics xs f

  -- "Edges first, then dispatches, each in list order"
  unfoldable pub join_address : Bits A → Kernel A → (ℕ → A) → (ℕ → A) → (ℕ → A) → ℕ → List (Edge A) → List (Dispatch A) → A → Prog A A
  join_address b k flag_of registers dynamics at edges dispatches flow = do
    f ← join_edges b k flag_of at edges flow
    join_dispatches b registers dynamics dispatches f
