-- A sort's number names it alone. Assumes nothing.
use Rattle.std.specs.Prelude.{Some}
use Prim.Native.Nat.{◌≤◌}
use mathlib.Core.Path.{◌≡◌, refl, sym, ap, ◌∙◌}
use lib.Dec.{T, eqb→eq, lit≤}
use Rattle.btor2.specs.declared.NodeType.{NodeType}
use Rattle.btor2.specs.declared.NodeType.TheVariants.{Bit, Word, Memory, Input1Byte, Input2Byte, Input3Byte, Input4Byte, Input5Byte, Input6Byte, Input7Byte}
use Rattle.btor2.specs.Sort.{sort_number, sort_numbered, width, same_sort}

pub sort_back : (s : NodeType) → sort_numbered (sort_number s) ≡ Some s
sort_back Bit = refl
sort_back Word = refl
sort_back Memory = refl
sort_back Input1Byte = refl
sort_back Input2Byte = refl
sort_back Input3Byte = refl
sort_back Input4Byte = refl
sort_back Input5Byte = refl
sort_back Input6Byte = refl
sort_back Input7Byte = refl

same_number : (s t : NodeType) → Some s ≡ Some t → s ≡ t
same_number s t e = cc

pub same_sort_lem : (s t : NodeType) → T (same_sort s t) → s ≡ t
same_sort_lem s t h = same_number s t (sym (sort_back s) ∙ ap sort_numbered (eqb→eq (sort_number s) (sort_number t) h) ∙ sort_back t)

pub width_small : (s : NodeType) → width s ≤ 64
width_small Bit = lit≤ tt
width_small Word = lit≤ tt
width_small Memory = lit≤ tt
width_small Input1Byte = lit≤ tt
width_small Input2Byte = lit≤ tt
width_small Input3Byte = lit≤ tt
width_small Input4Byte = lit≤ tt
width_small Input5Byte = lit≤ tt
width_small Input6Byte = lit≤ tt
width_small Input7Byte = lit≤ tt

pub number_small : (s : NodeType) → sort_number s ≤ 17
number_small Bit = lit≤ tt
number_small Word = lit≤ tt
number_small Memory = lit≤ tt
number_small Input1Byte = lit≤ tt
number_small Input2Byte = lit≤ tt
number_small Input3Byte = lit≤ tt
number_small Input4Byte = lit≤ tt
number_small Input5Byte = lit≤ tt
number_small Input6Byte = lit≤ tt
number_small Input7Byte = lit≤ tt
