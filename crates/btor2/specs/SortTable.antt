-- The ten sorts in one table: the number that each is printed as, its width, and the padding of a `uext` from it. Document 02, R-5.
use Rattle.std.specs.Prelude.{ℕ, ◌+◌, ◌≡◌, Some}
use Rattle.btor2.specs.declared.NodeType.{NodeType}
use Rattle.btor2.specs.declared.NodeType.TheVariants.{Bit, Word, Memory, Input1Byte, Input2Byte, Input3Byte, Input4Byte, Input5Byte, Input6Byte, Input7Byte}
use Rattle.btor2.specs.Sort.{sort_number, sort_numbered, width}

-- What is said of a sort: the number of its sort line, the bits of a value, and by how many bits `uext` extends one to a Word. An array has
-- no width, and 0 stands there; a `uext` from Memory is refused with 11 before its padding is seen.
pub record SortRow : Type 0 where
  pub number : ℕ
  pub width : ℕ
  pub padding : ℕ

abbrev row : ℕ → ℕ → ℕ → SortRow
row number width padding = record { number = number; width = width; padding = padding }

-- "1, 2, 3 and 11 to 17; 63 for Bit, 64 − 8n for n bytes, 0 for Word", each beside its sort line
abbrev pub sort_row : NodeType → SortRow
sort_row Bit = row 1 1 63  -- 1 sort bitvec 1
sort_row Word = row 2 64 0  -- 2 sort bitvec 64
sort_row Memory = row 3 0 64  -- 3 sort array 2 2
sort_row Input1Byte = row 11 8 56  -- 11 sort bitvec 8
sort_row Input2Byte = row 12 16 48  -- 12 sort bitvec 16
sort_row Input3Byte = row 13 24 40  -- 13 sort bitvec 24
sort_row Input4Byte = row 14 32 32  -- 14 sort bitvec 32
sort_row Input5Byte = row 15 40 24  -- 15 sort bitvec 40
sort_row Input6Byte = row 16 48 16  -- 16 sort bitvec 48
sort_row Input7Byte = row 17 56 8  -- 17 sort bitvec 56

abbrev pub padding : NodeType → ℕ
padding s = (sort_row s).padding

-- What code and definitions say of a sort is its row of the table: its number and its width, and BTOR2's `uext`, whose result has its padding
-- more bits than its operand, makes a value of it a Word. The number that is printed for a sort is read as it, and no other number is. Of
-- Memory the last says nothing but that its row has 0 and 64.
pub record Tabled (s : NodeType) : Type 0 where
  pub numbered : (sort_row s).number ≡ sort_number s
  pub wide : (sort_row s).width ≡ width s
  pub read : sort_numbered (sort_row s).number ≡ Some s
  pub alone : (n : ℕ) → sort_numbered n ≡ Some s → n ≡ (sort_row s).number
  pub extended : (sort_row s).width + (sort_row s).padding ≡ (sort_row Word).width
