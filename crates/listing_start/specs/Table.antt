-- What only the contract of a private function cites: a line of the start, as the code's table has it.
use Rattle.std.specs.Prelude.{ℕ}
use Rattle.btor2.specs.Op.{Op, const, state}
use Rattle.listing_start.specs.declared.StartLine.{StartLine}
use Rattle.listing_start.specs.declared.StartLine.TheVariants.{Const, State}

abbrev pub start_op : StartLine → Op ℕ
start_op (Const sort imm) = const sort imm
start_op (State sort at len) = state sort (record { area = 1; at = at; len = len })
