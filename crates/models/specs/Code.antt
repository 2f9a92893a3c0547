-- The code's structs as the programs' records; a place is its number.
use Rattle.std.specs.Prelude.{ℕ}
use Rattle.models.specs.Places as P
use Rattle.models.specs.declared.Operands.{Operands}
use Rattle.models.specs.declared.Flows.{Flows}
use Rattle.models.specs.declared.Outcome.{Outcome}
use Rattle.models.specs.declared.Outcome.TheVariants.{Nothing, Register, Memory, Branch}
use Rattle.models.specs.declared.Modeled.{Modeled}
use Rattle.models.specs.declared.Counted.{Counted}

abbrev pub operands_of : Operands → P.Operands ℕ
operands_of e = record {
  flag = e.flag.0;
  rs1 = e.rs1.0;
  rs2 = e.rs2.0;
  zero = e.zero.0;
  one = e.one.0;
  true_bit = e.true_bit.0;
  memory = e.memory.0;
  counter = e.counter.0;
  maximum = e.maximum.0;
}

abbrev pub flows_of : Flows → P.Flows ℕ
flows_of f = record {
  counter = f.counter.0;
  maximum = f.maximum.0;
  division = f.division.0;
  remainder = f.remainder.0;
  access = f.access.0;
  addition = f.addition.0;
  multiplication = f.multiplication.0;
  ecall = f.ecall.0;
}

abbrev pub outcome_of : Outcome → P.Outcome ℕ
outcome_of Nothing = P.nothing
outcome_of (Register x) = P.register x.0
outcome_of (Memory x) = P.memory x.0
outcome_of (Branch x y) = P.branch x.0 y.0

abbrev pub modeled_of : Modeled → P.Modeled ℕ
modeled_of r = record { flows = flows_of r.flows; outcome = outcome_of r.outcome }

abbrev pub counted_of : Counted → P.Counted ℕ
counted_of r = record { counter = r.counter.0; maximum = r.maximum.0; node = r.node.0 }
