-- The ten sorts of `write_model` at 64 bits: the number that each is printed as, and its width. Document 01, "Port order", 1.
use Rattle.std.specs.Prelude.{ℕ, Bool, cond, List, [], ◌∷◌, eqb, Option, Some, None}
use Rattle.btor2.specs.declared.NodeType.{NodeType}
use Rattle.btor2.specs.declared.NodeType.TheVariants.{Bit, Word, Memory, Input1Byte, Input2Byte, Input3Byte, Input4Byte, Input5Byte, Input6Byte, Input7Byte}

-- `1 sort bitvec 1`, `2 sort bitvec 64`, `3 sort array 2 2`, `11 sort bitvec 8` to `17 sort bitvec 56`
abbrev pub sort_number : NodeType → ℕ
sort_number Bit = 1
sort_number Word = 2
sort_number Memory = 3
sort_number Input1Byte = 11
sort_number Input2Byte = 12
sort_number Input3Byte = 13
sort_number Input4Byte = 14
sort_number Input5Byte = 15
sort_number Input6Byte = 16
sort_number Input7Byte = 17

-- the bits of a value; an array has no width
abbrev pub width : NodeType → ℕ
width Bit = 1
width Word = 64
width Memory = 0
width Input1Byte = 8
width Input2Byte = 16
width Input3Byte = 24
width Input4Byte = 32
width Input5Byte = 40
width Input6Byte = 48
width Input7Byte = 56

-- the first of some sorts that is printed as n
abbrev pub first_numbered : List NodeType → ℕ → Option NodeType
first_numbered [] n = None
first_numbered (s ∷ ss) n = cond (eqb n (sort_number s)) (Some s) (first_numbered ss n)

abbrev pub sorts : List NodeType
sorts = Bit ∷ Word ∷ Memory ∷ Input1Byte ∷ Input2Byte ∷ Input3Byte ∷ Input4Byte ∷ Input5Byte ∷ Input6Byte ∷ Input7Byte ∷ []

abbrev pub sort_numbered : ℕ → Option NodeType
sort_numbered n = first_numbered sorts n

-- the number of a sort, 0 for none
abbrev pub sort_or_none : Option NodeType → ℕ
sort_or_none (Some s) = sort_number s
sort_or_none None = 0

-- the same sort
abbrev pub same_sort : NodeType → NodeType → Bool
same_sort s t = eqb (sort_number s) (sort_number t)
