-- How many lines each kind appends: `line_count` is the growth of the list. Their names fit the record. Assumes nothing.
use Prim.Native.Nat.{ℕ}
use mathlib.Core.Path.{◌≡◌, refl}
use mathlib.Core.Bool.{Bool, true, false, cond, ◌&&◌}
use mathlib.Core.List.{List, [], ◌∷◌}
use lib.Dec.{T, ltb, eqb, eqb→eq}
use lib.ListN.{length}
use Rattle.bitvec.proofs.Truth.{is_true}
use Rattle.btor2.specs.declared.Name.{Name}
use Rattle.btor2.specs.Op.{Op}
use Rattle.btor2_list.specs.Node.{no_name}
use Rattle.btor2_list.proofs.Fitting.{area_fits}
use Rattle.btor2_list.specs.NameBytes.{our_area}
use Rattle.riscv.specs.declared.Zeros.{Zeros}
use Rattle.riscv.specs.declared.Class.{Class}
use Rattle.riscv.specs.Class.{line_count, has_bad}
use Rattle.riscv.specs.declared.Kind.{Kind}
use Rattle.riscv.proofs.EachKind.{every_case, by_case}
use Rattle.lowering_laws.specs.Lines.{taking}
use Rattle.lowering_laws.proofs.EachKind.{reading}
use Rattle.models.specs.Places.{Operands, Flows}
use Rattle.text.specs.BadName.{bad_name}
use Rattle.lowering.specs.Lines.{name_for}

-- the area of every line's name has one byte
abbrev pub fitting : {A : Type 0} → List (Op A) → Bool
fitting [] = true
fitting (o ∷ os) = area_fits o && fitting os

module _ {A : Type 0} (at : ℕ → A) (e : Operands A) (f : Flows A) (r m : A) (imm : ℕ) (name : Name) (small : ltb name.area 256 ≡ true) where
  counted : Kind → Zeros → Bool
  counted k z = eqb (length (reading at e f r m imm name k z).lines) (line_count k z)

  all_counted : T (every_case counted)
  unfolding counted reading
  all_counted = tt

  -- no line of an instruction takes two
  numbered : Kind → Zeros → Bool
  numbered k z = eqb (taking (reading at e f r m imm name k z).lines) (line_count k z)

  all_numbered : T (every_case numbered)
  unfolding numbered reading taking
  all_numbered = tt

  fitted : Kind → Zeros → Bool
  fitted k z = fitting (reading at e f r m imm name k z).lines

  all_fitted : T (every_case fitted)
  unfolding fitted reading area_fits
  all_fitted = rw small tt

  pub grows : (k : Kind) (z : Zeros) → length (reading at e f r m imm name k z).lines ≡ line_count k z
  unfolding counted
  grows k z = eqb→eq _ _ (by_case counted all_counted k z)

  pub takes : (k : Kind) (z : Zeros) → taking (reading at e f r m imm name k z).lines ≡ line_count k z
  unfolding numbered
  takes k z = eqb→eq _ _ (by_case numbered all_numbered k z)

  pub fits : (k : Kind) (z : Zeros) → fitting (reading at e f r m imm name k z).lines ≡ true
  unfolding fitted
  fits k z = is_true _ (by_case fitted all_fitted k z)

-- an instruction's name is in our area, or missing
pub name_fits : (c : Class) (z : Zeros) (at address : ℕ) → ltb (name_for c z at address).area 256 ≡ true
name_fits c z at address = go (has_bad c z)
  where
    go : (b : Bool) → ltb (cond b (record { area = our_area; at = at; len = length (bad_name address) }) no_name).area 256 ≡ true
    go true = refl
    go false = refl
