-- What only the contracts of private functions cite: a kind's row as the code holds it, its name in one word.
use Rattle.riscv_rows.specs.declared.Row.{Row}
use Rattle.riscv.specs.declared.Kind.{Kind}
use Rattle.riscv.specs.Kind.{kind_name}
use Rattle.riscv.specs.Format.{format}
use Rattle.riscv.specs.Class.{class, plain_count}
use Rattle.riscv.specs.Name.{packed}

abbrev pub coded : Kind → Row
coded k = record { name = packed (kind_name k); format = format k; class = class k; lines = plain_count k }
