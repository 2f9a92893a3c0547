-- That what edges and dispatches refer to is in the list, and the claims over a list of lines and the program of a join. Assumes nothing.
use Prim.Native.Nat.{ℕ, ◌<◌}
use mathlib.Core.Path.{◌≡◌}
use mathlib.Core.Bool.{◌||◌}
use mathlib.Core.List.{List, [], ◌∷◌}
use lib.Dec.{eqb}
use lib.ListN.{length}
use Rattle.btor2.specs.Op.{Op}
use Rattle.btor2.specs.Value.{Env, value}
use Rattle.list_check.specs.Lines.{any}
use Rattle.edges.specs.Edges.{branch_origin}
use Rattle.join.specs.ControlFlow.{Bits, Kernel}
use Rattle.join.specs.Program.{Edge, Dispatch, join_address}
use Rattle.join_laws.specs.Push.{pushed}
use Rattle.join_laws.specs.Active.{on, any_active, active_plain, active_dispatch, NoSyscall}

module _ (env : Env) where
  -- a place of the list, whose value is a bit
  pub record Bit (xs : List (Op ℕ)) (p : ℕ) : Type 0 where
    pub place : p < length xs
    pub bound : (value env xs p).num < 2

  -- the zero and the one are, and the flow is known by the zero's own place
  pub record KnownBits (xs : List (Op ℕ)) (b : Bits ℕ) : Type 0 where
    pub zero : b.zero < length xs
    pub one : b.one < length xs
    pub is_zero : (p : ℕ) → b.is_zero p ≡ eqb p b.zero
    pub zero_value : (value env xs b.zero).num ≡ 0
    pub one_value : (value env xs b.one).num ≡ 1

  module _ (flag_of : ℕ → ℕ) where
    -- of an edge
    pub record Sound (k : Kernel ℕ) (xs : List (Op ℕ)) (x : Edge ℕ) : Type 0 where
      pub flag : Bit xs (flag_of x.from)
      pub condition : x.origin ≡ branch_origin → Bit xs x.condition

    abbrev pub AllSound : Kernel ℕ → List (Op ℕ) → List (Edge ℕ) → Type 0
    AllSound k xs [] = Unit {0}
    AllSound k xs (x ∷ es) = Sound k xs x × AllSound k xs es

  module _ (registers dynamics : ℕ → ℕ) where
    pub record Reached (xs : List (Op ℕ)) (x : Dispatch ℕ) : Type 0 where
      pub dynamic : Bit xs (dynamics x.register)
      pub register : registers x.register < length xs
      pub address : x.address < length xs

    abbrev pub AllReached : List (Op ℕ) → List (Dispatch ℕ) → Type 0
    AllReached xs [] = Unit {0}
    AllReached xs (x ∷ ds) = Reached xs x × AllReached xs ds

-- ---- the claims, over a list of lines and the program of a join

-- "the result is 1 exactly when an edge is active [..] or the starting flow was 1": every join
abbrev pub JoinMeans : Type 0
JoinMeans = (env : Env) (xs : List (Op ℕ)) (b : Bits ℕ) (k : Kernel ℕ) (flag_of registers dynamics : ℕ → ℕ) (at : ℕ) (es : List (Edge ℕ)) (ds : List (Dispatch ℕ)) (flow : ℕ)
    → KnownBits env xs b → Bit env xs k.none → AllSound env flag_of k xs es → AllReached env registers dynamics xs ds → flow < length xs
    → let r = pushed xs (join_address b k flag_of registers dynamics at es ds flow) in
    on env r.state r.value ≡ ((any_active env flag_of b k xs at es flow || any (active_dispatch env registers dynamics xs) ds) || on env xs flow)

-- regular and branch edges, no dispatch
abbrev pub PlainMeans : Type 0
PlainMeans = (env : Env) (xs : List (Op ℕ)) (b : Bits ℕ) (k : Kernel ℕ) (flag_of registers dynamics : ℕ → ℕ) (at : ℕ) (es : List (Edge ℕ)) (flow : ℕ)
    → KnownBits env xs b → Bit env xs k.none → AllSound env flag_of k xs es → NoSyscall es → flow < length xs
    → let r = pushed xs (join_address b k flag_of registers dynamics at es [] flow) in
    on env r.state r.value ≡ (any (active_plain env flag_of xs) es || on env xs flow)
