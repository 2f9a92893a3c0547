-- The names of a join's lines fit the record. Assumes nothing.
use Prim.Native.Nat.{ℕ, ◌+◌}
use mathlib.Core.Path.{◌≡◌, refl}
use mathlib.Core.Bool.{Bool, true, false, cond}
use mathlib.Core.List.{List, [], ◌∷◌}
use lib.Dec.{eqb}
use lib.ListN.{length}
use Rattle.btor2.specs.Op.{Op}
use Rattle.btor2_list.proofs.Fitting.{area_fits}
use Rattle.builder.specs.Prog.{Prog, done, line, ◌>>=◌}
use Rattle.builder.specs.Lines.{lines_of}
use Rattle.lowering_laws.proofs.Growth.{fitting}
use Rattle.join.specs.ControlFlow.{Bits, Kernel, control_flow_from_any, control_flow_from_regular, control_flow_from_branch, control_flow_from_ecall, control_flow_from_jalr}
use Rattle.join.specs.Program.{Edge, Dispatch, from_edge, join_edges, join_dispatches, join_address}
use Rattle.join.specs.FlagName.{name_at}
use Rattle.join.specs.Program.{edge_name}

pub data Fit {X : Type 0} : Prog ℕ X → Type 0 where
  none : {x : X} → Fit (done x)
  one : {o : Op ℕ} {k : ℕ → Prog ℕ X} → area_fits o ≡ true → ((a : ℕ) → Fit (k a)) → Fit (line o k)

pub fit_lines : {X : Type 0} {p : Prog ℕ X} → Fit p → (at : ℕ → ℕ) (k : ℕ) → fitting (lines_of at k p) ≡ true
unfolding lines_of
fit_lines none at k = refl
fit_lines (one e f) at k = rw e (fit_lines (f (at k)) at (k + 1))

fit-bind : {X Y : Type 0} {p : Prog ℕ X} → Fit p → (f : X → Prog ℕ Y) → ((x : X) → Fit (f x)) → Fit (p >>= f)
unfolding ◌>>=◌
fit-bind (none {x}) f h = h x
fit-bind (one e q) f h = one e (λ a. fit-bind (q a) f h)

choose : {X : Type 0} (t : Bool) {p q : Prog ℕ X} → Fit p → Fit q → Fit (cond t p q)
choose true h k = h
choose false h k = k

module _ (b : Bits ℕ) where
  any : (activate flow : ℕ) → Fit (control_flow_from_any b activate flow)
  unfolding control_flow_from_any area_fits
  any activate flow = choose (b.is_zero flow) none (one refl (λ a. none))

  regular : (flag flow : ℕ) → Fit (control_flow_from_regular b flag flow)
  unfolding control_flow_from_regular
  regular flag flow = any flag flow

  branch : (flag condition flow : ℕ) → Fit (control_flow_from_branch b flag condition flow)
  unfolding control_flow_from_branch area_fits ◌>>=◌
  branch flag condition flow = one refl (λ a. any a flow)

  ecall : (k : Kernel ℕ) (flag at from flow : ℕ) → Fit (control_flow_from_ecall b k flag (name_at at from) flow)
  unfolding control_flow_from_ecall area_fits ◌>>=◌
  ecall k flag at from flow = one refl (λ s. one refl (λ i. one refl (λ n. one refl (λ a. any a flow))))

  jalr : (register dynamic pc flow : ℕ) → Fit (control_flow_from_jalr b register dynamic pc flow)
  unfolding control_flow_from_jalr area_fits ◌>>=◌
  jalr register dynamic pc flow = one refl (λ e. one refl (λ a. any a flow))

  module _ (k : Kernel ℕ) (flag_of : ℕ → ℕ) where
    edge : (at : ℕ) (x : Edge ℕ) (flow : ℕ) → Fit (from_edge b k flag_of at x flow)
    unfolding from_edge
    edge at x flow = choose (eqb x.origin 1) (branch (flag_of x.from) x.condition flow) (choose (eqb x.origin 2) (ecall k (flag_of x.from) at x.from flow) (regular (flag_of x.from) flow))

    edges : (at : ℕ) (es : List (Edge ℕ)) (flow : ℕ) → Fit (join_edges b k flag_of at es flow)
    unfolding join_edges
    edges at [] flow = none
    edges at (x ∷ es) flow = fit-bind (edge at x flow) _ (λ f. edges (at + length (edge_name x.origin x.from)) es f)

    dispatches : (registers dynamics : ℕ → ℕ) (ds : List (Dispatch ℕ)) (flow : ℕ) → Fit (join_dispatches b registers dynamics ds flow)
    unfolding join_dispatches
    dispatches registers dynamics [] flow = none
    dispatches registers dynamics (x ∷ ds) flow = fit-bind (jalr (registers x.register) (dynamics x.register) x.address flow) _ (λ f. dispatches registers dynamics ds f)

    pub joined : (registers dynamics : ℕ → ℕ) (at : ℕ) (es : List (Edge ℕ)) (ds : List (Dispatch ℕ)) (flow : ℕ) → Fit (join_address b k flag_of registers dynamics at es ds flow)
    unfolding join_address
    joined registers dynamics at es ds flow = fit-bind (edges at es flow) _ (λ f. dispatches registers dynamics ds f)
