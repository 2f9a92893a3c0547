-- A line of another kind than State has no init. Assumes nothing.
use Rattle.std.specs.Prelude.{Option, Some, None, is_some}
use Rattle.btor2.specs.declared.NodeType.{NodeType}
use Prim.Native.Nat.{ℕ, suc}
use mathlib.Core.Path.{◌≡◌, refl, sym, ◌∙◌, ap}
use mathlib.Core.Bool.{Bool, true, false, cond, not, ◌&&◌, true≢false}
use mathlib.Core.List.{List, [], ◌∷◌, ◌++◌}
use borrow.Author.Tests.{ne_eqb}
use lib.Dec.{eqb}
use lib.ListN.{take, drop}
use Rattle.btor2.specs.Sort.{sort_numbered}
use Rattle.btor2.specs.Op.{Op, state, state_init, unknown, has_init, identifiers}
use Rattle.btor2_list.specs.declared.Line.{Line}
use Rattle.btor2_list.specs.Kinds.{state_kind}
use Rattle.btor2_list.specs.Node.{with_sort, operator_at, operators_by_kind, op_of}

-- none of some operators has one
without : List (Op ℕ) → Bool
without [] = true
without (o ∷ os) = not (has_init o) && without os

found : (os : List (Op ℕ)) (from n : ℕ) → without os ≡ true → has_init (operator_at os from n) ≡ false
unfolding without
found [] from n h = refl
found (o ∷ os) from n h = go (eqb n from) (has_init o) refl h (λ k. found os (suc from) n k)
  where
    go : (t i : Bool) → has_init o ≡ i → (not i && without os) ≡ true → (without os ≡ true → has_init (operator_at os (suc from) n) ≡ false)
        → has_init (cond t o (operator_at os (suc from) n)) ≡ false
    go t true e h rest = absurd (true≢false (sym h))
    go true false e h rest = e
    go false false e h rest = rest h

-- the table with no State in it
others : Option NodeType → Line → List (Op ℕ)
others m l = take 18 (operators_by_kind m l) ++ (unknown ∷ drop 19 (operators_by_kind m l))

module _ (l : Line) where
  passed : (m : Option NodeType) → without (others m l) ≡ true
  unfolding without others
  passed (Some s) = refl
  passed None = refl

  pub no_init : (l.kind ≡ state_kind → ⊥) → has_init (op_of l) ≡ false
  unfolding op_of others
  no_init h =
      let same : operator_at (operators_by_kind (sort_numbered l.sort) l) 1 l.kind ≡ operator_at (others (sort_numbered l.sort) l) 1 l.kind = rw (ne_eqb l.kind state_kind h) in
      ap has_init same ∙ found (others (sort_numbered l.sort) l) 1 l.kind (passed (sort_numbered l.sort))

-- a State whose mark is not 0 has one, if its sort is known
module _ (l : Line) (kind : l.kind ≡ state_kind) where
  pub with_init : (l.imm ≡ 0 → ⊥) → identifiers (op_of l) ≡ cond (is_some (sort_numbered l.sort)) 2 1
  unfolding op_of
  with_init h = rw (kind, ne_eqb l.imm 0 h) (go (sort_numbered l.sort))
    where
      go : (m : Option NodeType) → identifiers {A = ℕ} (with_sort m (λ s. state_init s l.op1.0 l.name)) ≡ cond (is_some m) 2 1
      go (Some s) = refl
      go None = refl

  pub without_init : l.imm ≡ 0 → identifiers (op_of l) ≡ 1
  unfolding op_of
  without_init h = rw (kind, h) (go (sort_numbered l.sort))
    where
      go : (m : Option NodeType) → identifiers {A = ℕ} (with_sort m (λ s. state s l.name)) ≡ 1
      go (Some s) = refl
      go None = refl
