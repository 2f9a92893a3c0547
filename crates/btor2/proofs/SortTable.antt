-- The table of the sorts is what code and definitions say of them. Assumes nothing.
use Rattle.std.proofs.Common.{◌≡◌, ℕ, ◌+◌, Bool, true, false, cond, List, [], ◌∷◌, eqb, sym, refl, ◌∙◌, ap, Some}
use borrow.Author.Tests.{eqb-true}
use Rattle.btor2.specs.declared.NodeType.{NodeType}
use Rattle.btor2.specs.declared.NodeType.TheVariants.{Bit, Word, Memory, Input1Byte, Input2Byte, Input3Byte, Input4Byte, Input5Byte, Input6Byte, Input7Byte}
use Rattle.btor2.specs.Sort.{sort_number, sort_numbered, first_numbered, sorts, width}
use Rattle.btor2.specs.SortTable.{sort_row, Tabled}
use Rattle.btor2.proofs.Sort.{sort_back}

same_sort_read : (s t : NodeType) → Some s ≡ Some t → s ≡ t
same_sort_read s t e = cc

number_read : (ss : List NodeType) (n : ℕ) (s : NodeType) → first_numbered ss n ≡ Some s → n ≡ sort_number s
number_read [] n s e = absurd (cc)
number_read (t ∷ ss) n s e = go (number_read ss n s) (eqb n (sort_number t)) refl e
  where
    go : (first_numbered ss n ≡ Some s → n ≡ sort_number s) → (b : Bool) → eqb n (sort_number t) ≡ b → cond b (Some t) (first_numbered ss n) ≡ Some s → n ≡ sort_number s
    go more true h f = eqb-true n (sort_number t) h ∙ ap sort_number (same_sort_read t s f)
    go more false h f = more f

numbered : (s : NodeType) → (sort_row s).number ≡ sort_number s
numbered Bit = refl
numbered Word = refl
numbered Memory = refl
numbered Input1Byte = refl
numbered Input2Byte = refl
numbered Input3Byte = refl
numbered Input4Byte = refl
numbered Input5Byte = refl
numbered Input6Byte = refl
numbered Input7Byte = refl

wide : (s : NodeType) → (sort_row s).width ≡ width s
wide Bit = refl
wide Word = refl
wide Memory = refl
wide Input1Byte = refl
wide Input2Byte = refl
wide Input3Byte = refl
wide Input4Byte = refl
wide Input5Byte = refl
wide Input6Byte = refl
wide Input7Byte = refl

extended : (s : NodeType) → (sort_row s).width + (sort_row s).padding ≡ (sort_row Word).width
extended Bit = refl
extended Word = refl
extended Memory = refl
extended Input1Byte = refl
extended Input2Byte = refl
extended Input3Byte = refl
extended Input4Byte = refl
extended Input5Byte = refl
extended Input6Byte = refl
extended Input7Byte = refl

pub tabled : (s : NodeType) → Tabled s
tabled s = record {
  numbered = numbered s;
  wide = wide s;
  read = ap sort_numbered (numbered s) ∙ sort_back s;
  alone = λ n e. number_read sorts n s e ∙ sym (numbered s);
  extended = extended s;
}
