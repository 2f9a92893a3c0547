-- The sort that a record carries, where the kind's sort is the record's own. Assumes nothing.
use Rattle.std.specs.Prelude.{Option, Some, None}
use Prim.Native.Nat.{◌≤◌}
use native.Mathlib.Omega.{arith}
use Rattle.std.proofs.lemmas.Bool.Decides.{nat_tests}
use Rattle.btor2.specs.Sort.{sort_numbered}
use Rattle.btor2_list.specs.declared.Line.{Line}
use mathlib.Core.Path.{◌≡◌}
use Rattle.btor2.specs.declared.NodeType.{NodeType}
use Rattle.btor2.specs.Op.{carried}
use Rattle.btor2_list.specs.Node.{operator_at, operators_by_kind, op_of}

-- the record's own sort m, where its kind is one of those whose sort is the record's
module _ (l : Line) (from : (l.kind ≡ 1 → ⊥) → (l.kind ≡ 14 → ⊥) → (l.kind ≡ 21 → ⊥) → 16 ≤ l.kind) (to : (l.kind ≡ 21 → ⊥) → l.kind ≤ 19) where
  known : (s : NodeType) → Some s ≡ carried (operator_at (operators_by_kind (Some s) l) 1 l.kind)
  unfolding carried
  known s = grind (arith, nat_tests)

  not_known : None ≡ carried (operator_at (operators_by_kind None l) 1 l.kind)
  unfolding carried
  not_known = grind (arith, nat_tests)

  pub own : sort_numbered l.sort ≡ carried (op_of l)
  unfolding op_of
  own = go (sort_numbered l.sort)
    where
      go : (m : Option NodeType) → m ≡ carried (operator_at (operators_by_kind m l) 1 l.kind)
      go (Some s) = known s
      go None = not_known
