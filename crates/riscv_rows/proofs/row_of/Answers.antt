-- The table is that of the definitions: antt computes it. Assumes nothing.
use Rattle.std.proofs.Common.{◌≡◌, ℕ, ◌<◌, List, map, get_or, refl, ap, ◌∙◌}
use Rattle.std.proofs.lemmas.List.{get_or-map}
use Rattle.riscv.specs.declared.Kind.{Kind}
use Rattle.riscv.specs.declared.Kind.TheVariants.{Ecall}
use Rattle.riscv.specs.Kind.{kinds, kind_count, kind_number}
use Rattle.riscv.specs.Name.{packed}
use Rattle.riscv.proofs.Numbered.{kind_back}
use Rattle.riscv_rows.specs.Coded.{coded}
use Rattle.riscv_rows.specs.declared.Row.{Row}
use Rattle.riscv_rows.specs.declared.TheConstants.{ROWS}
use Rattle.riscv_rows.proofs.row_of.Goals as goal

table : ROWS ≡ map coded kinds
unfolding packed
table = refl

row_at : (k : Kind) (r : Row) (n : ℕ) → n ≡ kind_number k → n < kind_count → get_or ROWS n r ≡ coded k
row_at k r n e l =
    ap (λ (rows : List Row). get_or rows n r) table ∙ get_or-map coded kinds n Ecall r l ∙ ap (λ (m : ℕ). coded (get_or kinds m Ecall)) e ∙ ap coded (kind_back k)

pub returns : goal.returns
returns c = row_at c.args.kind _ c.number.result c.number.ensures.is c.number.ensures.below
