-- Of which calls demand 3 speaks: document 01, "Start, storage, evaluation", and document 02, R-4.
use Rattle.std.specs.Prelude.{ℕ, Bool, [], ◌∷◌, T}
use Rattle.riscv.specs.declared.Kind.{Kind}
use Rattle.riscv.specs.declared.Kind.TheVariants.{Mul, Mulw}
use Rattle.riscv.specs.Kind.{one_of}
use Rattle.meaning.specs.Access.{InOneWord}
use Rattle.meaning.specs.Division.{ordinary}

-- what is asked of a call whose flag is true, by its kind, the values of rs1 and rs2, and imm: then its lines give the manual's values
pub record Admitted (k : Kind) (rs1 rs2 imm : ℕ) : Type 0 where
  pub one_word : InOneWord k rs1 imm
  pub ordinary : T (ordinary k rs1 rs2)

-- the kinds that demand 3 leaves out: their lines break the sort rule
abbrev pub excluded : Kind → Bool
excluded k = one_of k (Mul ∷ Mulw ∷ [])
