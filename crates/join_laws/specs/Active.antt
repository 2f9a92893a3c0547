-- When a join's result is 1, under given states and inputs.
use Rattle.std.specs.Prelude.{ℕ, ◌+◌, ◌%◌, ◌^◌, ◌≡◌, Bool, false, cond, ◌&&◌, ◌||◌, List, [], ◌∷◌, eqb, length}
use Rattle.btor2.specs.Op.{Op}
use Rattle.btor2.specs.Value.{Env, value}
use Rattle.edges.specs.Edges.{branch_origin, syscall_origin}
use Rattle.join.specs.ControlFlow.{Bits, Kernel}
use Rattle.join.specs.Program.{Edge, Dispatch, edge_name, from_edge}
use Rattle.join_laws.specs.Push.{pushed}

module _ (env : Env) where
  -- the line at a place is 1
  abbrev pub on : List (Op ℕ) → ℕ → Bool
  on xs p = eqb (value env xs p).num 1

  module _ (flag_of : ℕ → ℕ) where
    -- "an edge is active (its source's flag, and for a branch its condition too, is 1)"; a syscall where its State, which stands where the list
    -- ends, and kernel not are
    abbrev pub active_edge : Kernel ℕ → List (Op ℕ) → Edge ℕ → Bool
    active_edge k xs x =
        cond (eqb x.origin branch_origin) (on xs (flag_of x.from) && on xs x.condition)
        (cond (eqb x.origin syscall_origin) (eqb ((env (length xs)).num % 2 ^ 1) 1 && on xs k.none) (on xs (flag_of x.from)))

    -- some edge is, each in the list that the edges before it leave
    unfoldable pub any_active : Bits ℕ → Kernel ℕ → List (Op ℕ) → ℕ → List (Edge ℕ) → ℕ → Bool
    any_active b k xs at [] flow = false
    any_active b k xs at (x ∷ es) flow =
        let r = pushed xs (from_edge b k flag_of at x flow) in
        active_edge k xs x || any_active b k r.state (at + length (edge_name x.origin x.from)) es r.value

    -- an edge that is regular or a branch: its flag and condition have the values that they have in the list before
    abbrev pub active_plain : List (Op ℕ) → Edge ℕ → Bool
    active_plain xs x = cond (eqb x.origin branch_origin) (on xs (flag_of x.from) && on xs x.condition) (on xs (flag_of x.from))

  -- "a dispatch where its dynamic flag is 1 and the register's node equals the address node"
  module _ (registers dynamics : ℕ → ℕ) where
    abbrev pub active_dispatch : List (Op ℕ) → Dispatch ℕ → Bool
    active_dispatch xs x = on xs (dynamics x.register) && eqb (value env xs (registers x.register)).num (value env xs x.address).num

-- no syscall
abbrev pub NoSyscall : List (Edge ℕ) → Type 0
NoSyscall [] = Unit {0}
NoSyscall (x ∷ es) = (x.origin ≡ syscall_origin → ⊥) × NoSyscall es
