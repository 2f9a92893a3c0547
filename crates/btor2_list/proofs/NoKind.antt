-- A record whose kind is none of the 22 is no known line. Assumes nothing.
use Prim.Native.Nat.{ℕ, suc, ◌+◌, ◌≤◌}
use mathlib.Core.Path.{◌≡◌, refl}
use mathlib.Core.List.{List, [], ◌∷◌}
use native.Mathlib.Omega.{arith}
use borrow.Author.Tests.{ne_eqb}
use lib.ListN.{length}
use Rattle.bitvec.proofs.LastArm.{NoneFrom, past}
use Rattle.btor2.specs.Sort.{sort_numbered}
use Rattle.btor2.specs.Op.{Op, unknown}
use Rattle.btor2_list.specs.declared.Line.{Line}
use Rattle.btor2_list.specs.Node.{operator_at, operators_by_kind, op_of}

-- a number that is before a table's, or past them, names nothing
absent : (os : List (Op ℕ)) (from n : ℕ) → (from ≤ n → from + length os ≤ n) → operator_at os from n ≡ unknown
absent [] from n h = refl
absent (o ∷ os) from n h = rw (ne_eqb n from (λ e. omega (arith, h (omega arith)))) (absent os (suc from) n (λ l. omega (arith, h (omega arith))))

module _ (l : Line) where
  pub outside : (1 ≤ l.kind → 23 ≤ l.kind) → op_of l ≡ unknown
  unfolding op_of
  outside h = absent (operators_by_kind (sort_numbered l.sort) l) 1 l.kind h

  pub no_kind : NoneFrom 1 22 l.kind → op_of l ≡ unknown
  no_kind none = outside (past 1 22 l.kind none)
