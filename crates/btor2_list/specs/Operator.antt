-- The code's operators, as those of the definitions.
use Rattle.std.specs.Prelude.{ℕ}
use Rattle.btor2.specs.Op as O
use Rattle.btor2_list.specs.declared.operator.Bin.{Bin}
use Rattle.btor2_list.specs.declared.operator.Bin.TheVariants.{Add, Sub, Mul, Divu, Div, Rem, Sll, Srl, Ult}
use Rattle.btor2_list.specs.declared.operator.LineOperator.{LineOperator}
use Rattle.btor2_list.specs.declared.operator.LineOperator.TheVariants.{Const, Read, Write, Binary, Ext, Ite, Eq, And, Or, Not, State, StateInit, Next, Input, Bad, Unknown}

abbrev pub bin_from : Bin → O.Bin
bin_from Add = O.add
bin_from Sub = O.sub
bin_from Mul = O.mul
bin_from Divu = O.udiv
bin_from Div = O.sdiv
bin_from Rem = O.urem
bin_from Sll = O.sll
bin_from Srl = O.srl
bin_from Ult = O.ult

abbrev pub op_from : LineOperator → O.Op ℕ
op_from (Const s n) = O.const s n
op_from (Read m a) = O.read m.0 a.0
op_from (Write m a v) = O.write m.0 a.0 v.0
op_from (Binary o a b) = O.bin (bin_from o) a.0 b.0
op_from (Ext s a) = O.uext s a.0
op_from (Ite s c a b) = O.ite s c.0 a.0 b.0
op_from (Eq a b) = O.eq a.0 b.0
op_from (And s a b) = O.and s a.0 b.0
op_from (Or s a b) = O.or s a.0 b.0
op_from (Not s a) = O.not s a.0
op_from (State s m) = O.state s m
op_from (StateInit s a m) = O.state_init s a.0 m
op_from (Next s a b) = O.next s a.0 b.0
op_from (Input s m) = O.input s m
op_from (Bad a m) = O.bad a.0 m
op_from Unknown = O.unknown
