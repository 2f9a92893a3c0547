use Rattle.std.proofs.Common.{refl, sym, ◌∙◌}
use Rattle.bitvec.specs.Smtlib.{bvadd, bvmul, bvult}
use Rattle.bitvec.proofs.Base.{sub_is}
use Rattle.btor2.specs.Value.{binary as binary_of}
use Rattle.evaluation_calls.proofs.Words.{bit_is}
use Rattle.evaluation_calls.proofs.operators.binary.Goals as goal

pub returns-in-Add : goal.returns-in-Add
unfolding binary_of bvadd
returns-in-Add c = rw c.in-Add.is refl

pub returns-in-Sub : goal.returns-in-Sub
unfolding binary_of
returns-in-Sub c = rw c.in-Sub.is (sym (sub_is 64 c.args.x c.args.y))

pub returns-in-Mul : goal.returns-in-Mul
unfolding binary_of bvmul
returns-in-Mul c = rw c.in-Mul.is refl

pub returns-in-Divu : goal.returns-in-Divu
unfolding binary_of
returns-in-Divu c = rw c.in-Divu.is c.quotient.ensures

pub returns-in-Div : goal.returns-in-Div
unfolding binary_of
returns-in-Div c = rw c.in-Div.is c.signed_quotient.ensures

pub returns-in-Rem : goal.returns-in-Rem
unfolding binary_of
returns-in-Rem c = rw c.in-Rem.is c.remainder.ensures

pub returns-in-Sll : goal.returns-in-Sll
unfolding binary_of
returns-in-Sll c = rw c.in-Sll.is c.left.ensures

pub returns-in-Srl : goal.returns-in-Srl
unfolding binary_of
returns-in-Srl c = rw c.in-Srl.is c.right.ensures

pub returns-in-Ult : goal.returns-in-Ult
unfolding binary_of bvult
returns-in-Ult c = rw c.in-Ult.is (c.from.ensures ∙ bit_is _)
