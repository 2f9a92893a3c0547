-- No kind appends more lines than the most, whichever of its fields are zero: antt computes it. Assumes nothing.
use Prim.Native.Nat.{◌≤◌}
use lib.Dec.{leb, leb→le}
use Rattle.riscv.specs.declared.Zeros.{Zeros}
use Rattle.riscv.specs.declared.Kind.{Kind}
use Rattle.riscv.specs.Class.{plain_count, line_count, most_appended}
use Rattle.riscv.proofs.EachKind.{by_kind, by_case}

pub at_most : (k : Kind) (z : Zeros) → line_count k z ≤ most_appended
at_most k z = leb→le _ _ (by_case (λ k z. leb (line_count k z) most_appended) tt k z)

pub plain_most : (k : Kind) → plain_count k ≤ most_appended
plain_most k = leb→le _ _ (by_kind (λ k. leb (plain_count k) most_appended) tt k)
