-- The operators by which kinds of one family differ, as programs.
use Rattle.btor2.specs.Op.{sll, srl, ult}
use Rattle.builder.specs.Prog.{Prog}
use Rattle.builder.specs.OneLine.{new_bin, new_eq, new_and_word}
use Rattle.builder_ops.specs.Composed.{new_neq, new_ugte, new_slt, new_sgte, new_or, new_xor, new_sra}
use Rattle.builder_ops.specs.declared.operator.Operator.{Operator}
use Rattle.builder_ops.specs.declared.operator.Operator.TheVariants.{Eq, Neq, Slt, Sgte, Ult, Ugte, Or, Xor, And, Sll, Srl, Sra}

abbrev pub operator_of : {A : Type 0} → Operator → A → A → Prog A A
operator_of Eq = new_eq
operator_of Neq = new_neq
operator_of Slt = new_slt
operator_of Sgte = new_sgte
operator_of Ult = new_bin ult
operator_of Ugte = new_ugte
operator_of Or = new_or
operator_of Xor = new_xor
operator_of And = new_and_word
operator_of Sll = new_bin sll
operator_of Srl = new_bin srl
operator_of Sra = new_sra
