-- The kinds that have a sort of their own, apart from those whose sort is fixed. Assumes nothing.
use Rattle.std.specs.Prelude.{Some, None}
use Prim.Native.Nat.{ℕ, zero, suc}
use mathlib.Core.Path.{◌≡◌, refl, ◌∙◌}
use mathlib.Core.Bool.{Bool, true, false, cond}
use mathlib.Core.List.{List, [], ◌∷◌}
use lib.Dec.{T, eqb}
use lib.ListN.{replicate}
use Rattle.bitvec.proofs.LastArm.{NoneOf, among, differs}
use Rattle.btor2.specs.declared.NodeType.{NodeType}
use Rattle.btor2.specs.Op.{unknown}
use Rattle.btor2_list.specs.declared.Line.{Line}
use Rattle.btor2_list.specs.Kinds.{const_kind, read_kind, write_kind, add_kind, sub_kind, mul_kind, udiv_kind, sdiv_kind, urem_kind, sll_kind, srl_kind, ult_kind, uext_kind, ite_kind, eq_kind, and_kind, or_kind, not_kind, state_kind, next_kind, input_kind, bad_kind}
use Rattle.btor2_list.specs.Node.{operator_at, op_of}
use Rattle.btor2_list.specs.Inside.{sorted_op}
use Rattle.btor2.specs.Sort.{sort_numbered}

-- the last one first, as a match's last arm has them
abbrev fixed_kinds : List ℕ
fixed_kinds = bad_kind ∷ eq_kind ∷ ult_kind ∷ srl_kind ∷ sll_kind ∷ urem_kind ∷ sdiv_kind ∷ udiv_kind ∷ mul_kind ∷ sub_kind ∷ add_kind ∷ write_kind ∷ read_kind ∷ []

abbrev sorted_kinds : List ℕ
sorted_kinds = input_kind ∷ next_kind ∷ state_kind ∷ not_kind ∷ or_kind ∷ and_kind ∷ ite_kind ∷ uext_kind ∷ const_kind ∷ []

nothing_known : (n from k : ℕ) → operator_at (replicate n unknown) from k ≡ unknown
nothing_known zero from k = refl
nothing_known (suc n) from k = go (eqb k from) (nothing_known n (suc from) k)
  where
    go : (t : Bool) → operator_at (replicate n unknown) (suc from) k ≡ unknown → cond t unknown (operator_at (replicate n unknown) (suc from) k) ≡ unknown
    go true e = refl
    go false e = e

module _ (l : Line) where
  pub not_fixed : NoneOf fixed_kinds l.kind → op_of l ≡ sorted_op (sort_numbered l.sort) l
  unfolding op_of
  not_fixed none =
      let not : (n : ℕ) → T (among n fixed_kinds) → eqb l.kind n ≡ false = differs fixed_kinds l.kind none in
      rw (not read_kind tt, not write_kind tt, not add_kind tt, not sub_kind tt, not mul_kind tt, not udiv_kind tt, not sdiv_kind tt, not urem_kind tt, not sll_kind tt, not srl_kind tt, not ult_kind tt, not eq_kind tt, not bad_kind tt)

  pub no_sort_lem : sorted_op None l ≡ unknown
  no_sort_lem = nothing_known 21 1 l.kind

  pub no_sorted_kind : (s : NodeType) → NoneOf sorted_kinds l.kind → sorted_op (Some s) l ≡ unknown
  no_sorted_kind s none =
      let not : (n : ℕ) → T (among n sorted_kinds) → eqb l.kind n ≡ false = differs sorted_kinds l.kind none in
      let same : sorted_op (Some s) l ≡ operator_at (replicate 21 unknown) 1 l.kind =
      rw (not const_kind tt, not uext_kind tt, not ite_kind tt, not and_kind tt, not or_kind tt, not not_kind tt, not state_kind tt, not next_kind tt, not input_kind tt) in
      same ∙ nothing_known 21 1 l.kind
