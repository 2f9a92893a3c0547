-- What only private contracts cite.
use Rattle.std.specs.Prelude.{ℕ, Bool, List}
use Rattle.btor2_list.specs.Record.{record_at}
use Rattle.btor2_list.specs.Node.{op_of}
use Rattle.list_check.specs.Operand.{no_value_at}
use Rattle.list_check.specs.Broken.{op_broken}

-- of the record at place p, by lookups of its operands
abbrev pub record_broken : List ℕ → ℕ → Bool
record_broken ws p = op_broken (no_value_at ws p) (op_of (record_at ws p))
