-- The record of a line fits its fields, where the line's identifier and the area of its name do. Assumes nothing.
use Rattle.std.specs.Prelude.{Option}
use Prim.Native.Nat.{ℕ, ◌^◌, ◌<◌}
use mathlib.Core.Path.{◌≡◌}
use mathlib.Core.Bool.{Bool, true}
use native.Mathlib.Omega.{arith}
use borrow.Author.Tests.{ltb-true}
use lib.Dec.{ltb}
use Rattle.btor2.specs.declared.Name.{Name}
use Rattle.btor2.specs.Op.{Op, const, read, write, bin, uext, ite, eq, and, or, not, state, state_init, next, input, bad, unknown}
use Rattle.btor2_list.specs.Node.{no_name, row, line_of}
use Rattle.btor2_list.proofs.Stored.{LineFits}

-- the area of a line's name has one byte
unfoldable pub area_fits : {A : Type 0} → Op A → Bool
area_fits (const s n) = true
area_fits (read m a) = true
area_fits (write m a v) = true
area_fits (bin o a b) = true
area_fits (uext s a) = true
area_fits (ite s c a b) = true
area_fits (eq a b) = true
area_fits (and s a b) = true
area_fits (or s a b) = true
area_fits (not s a) = true
area_fits (state s m) = ltb m.area 256
area_fits (state_init s a m) = ltb m.area 256
area_fits (next s a b) = true
area_fits (input s m) = ltb m.area 256
area_fits (bad a m) = ltb m.area 256
area_fits unknown = true

module _ (address : Option ℕ) (nid : ℕ) (h : nid < 2 ^ 32) where
  nameless : {kind sort a b c imm : ℕ} → LineFits (row address nid kind sort a b c imm no_name)
  nameless = record { nid = omega arith; area = omega arith }

  with_name : {kind sort a b c imm : ℕ} (m : Name) → ltb m.area 256 ≡ true → LineFits (row address nid kind sort a b c imm m)
  with_name m e = record { nid = omega arith; area = omega (arith, ltb-true m.area 256 e) }

  pub line_fits : (o : Op ℕ) → area_fits o ≡ true → LineFits (line_of address nid o)
  unfolding area_fits
  line_fits (const s n) e = nameless
  line_fits (read m a) e = nameless
  line_fits (write m a v) e = nameless
  line_fits (bin o a b) e = nameless
  line_fits (uext s a) e = nameless
  line_fits (ite s c a b) e = nameless
  line_fits (eq a b) e = nameless
  line_fits (and s a b) e = nameless
  line_fits (or s a b) e = nameless
  line_fits (not s a) e = nameless
  line_fits (state s m) e = with_name m e
  line_fits (state_init s a m) e = with_name m e
  line_fits (next s a b) e = nameless
  line_fits (input s m) e = with_name m e
  line_fits (bad a m) e = with_name m e
  line_fits unknown e = nameless
