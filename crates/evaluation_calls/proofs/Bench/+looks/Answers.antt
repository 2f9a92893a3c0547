-- What each arm returns, and what each call asks. Assumes nothing.
use Rattle.std.proofs.Common.{refl, sym, ◌∙◌, arith}
use Rattle.bitvec.specs.Smtlib.{bvand, bvor, bvcomp}
use Rattle.btor2.specs.Value.{binary}
use Rattle.btor2_list.specs.Operator.{bin_from}
use Rattle.evaluation_calls.proofs.Steps.{falls, both_fall, passed_on, refused, valued, covered, uncovered, worked_out, if_one, if_other, first_refused, second_refused, two_values, arm, of_const, of_read, of_bin, of_ext, of_ite, of_eq, of_and, of_or, of_not, of_given, of_bare, cell_write, cell_ite, cell_given, no_cell}
use Rattle.evaluation_calls.proofs.Words.{bit_is}
use Rattle.evaluation_calls.proofs.Bench.+looks.Goals as goal
use Rattle.evaluation_calls.proofs.Bench.+looks.Goals.{cell-then-condition-eq1, cell-else-condition-eq1, number-then-condition-eq1, number-else-condition-eq1}

pub cell-number-requires : goal.cell-number-requires
cell-number-requires t c = falls c.decreases c.requires (arm c.in_ok-line.ensures c.in-Write.is).fit.1

pub cell-returns-in_err-at-in-Write : goal.cell-returns-in_err-at-in-Write
cell-returns-in_err-at-in-Write t c = refused _ _ c.from_residual-in_err-at-in-Write.ensures (cell_write c.args.address (arm c.in_ok-line.ensures c.in-Write.is)) c.in_err-at-in-Write.ensures

pub cell-number-requires-then-at-address : goal.cell-number-requires-then-at-address
cell-number-requires-then-at-address t c = falls c.decreases c.requires (arm c.in_ok-line.ensures c.in-Write.is).fit.2

pub cell-cell-requires : goal.cell-cell-requires
cell-cell-requires t c = falls c.decreases c.requires (arm c.in_ok-line.ensures c.in-Write.is).fit.0

pub cell-number-requires-in-Ite : goal.cell-number-requires-in-Ite
cell-number-requires-in-Ite t c = falls c.decreases c.requires (arm c.in_ok-line.ensures c.in-Ite.is).fit.0

pub cell-returns-in_err-condition-in-Ite : goal.cell-returns-in_err-condition-in-Ite
cell-returns-in_err-condition-in-Ite t c = refused _ _ c.from_residual-in_err-condition-in-Ite.ensures (cell_ite c.args.address (arm c.in_ok-line.ensures c.in-Ite.is)) c.in_err-condition-in-Ite.ensures

pub cell-cell-requires-in-Ite : goal.cell-cell-requires-in-Ite
cell-cell-requires-in-Ite t c =
    let e = (arm c.in_ok-line.ensures c.in-Ite.is).fit in
    elim c.if-condition-eq1.branch [
      | cell-then-condition-eq1 w ↦ falls c.decreases c.requires (rw w.chosen-is e.1)
      | cell-else-condition-eq1 w ↦ falls c.decreases c.requires (rw w.chosen-is e.2)
    ]

pub cell-returns-then-at-address : goal.cell-returns-then-at-address
cell-returns-then-at-address t c = valued (cell_write c.args.address (arm c.in_ok-line.ensures c.in-Write.is)) c.in_ok-at-in-Write.ensures (c.number-then-at-address.ensures ∙ covered _ _ (sym c.if-at-address.true))

pub cell-returns-else-at-address : goal.cell-returns-else-at-address
cell-returns-else-at-address t c = valued (cell_write c.args.address (arm c.in_ok-line.ensures c.in-Write.is)) c.in_ok-at-in-Write.ensures (c.cell.ensures ∙ uncovered _ _ (λ e. c.if-at-address.false (sym e)))

pub cell-returns-after-condition-eq1 : goal.cell-returns-after-condition-eq1
cell-returns-after-condition-eq1 t c =
    valued (cell_ite c.args.address (arm c.in_ok-line.ensures c.in-Ite.is)) c.in_ok-condition-in-Ite.ensures (elim c.if-condition-eq1.branch [
      | cell-then-condition-eq1 w ↦ (rw w.chosen-is at c.cell-in-Ite.ensures) ∙ if_one _ _ w.if-condition-eq1.true
      | cell-else-condition-eq1 w ↦ (rw w.chosen-is at c.cell-in-Ite.ensures) ∙ if_other _ _ w.if-condition-eq1.false
    ])

pub cell-returns-in_default : goal.cell-returns-in_default
cell-returns-in_default t c = no_cell c.in_ok-line.line c.args.address c.in_ok-line.ensures c.in_default.not-Write c.in_default.not-Ite c.in_default.not-State c.in_default.not-StateInit c.in_default.not-Input

pub cell-returns-in-State : goal.cell-returns-in-State
cell-returns-in-State t c = cell_given c.args.address c.in_ok-line.ensures c.in-State.is c.given_cell.ensures

pub number-number-requires : goal.number-number-requires
number-number-requires t c = falls c.decreases c.requires (arm c.in_ok-line.ensures c.in-Read.is).fit.1

pub number-returns-in_err-address-in-Read : goal.number-returns-in_err-address-in-Read
number-returns-in_err-address-in-Read t c = refused _ _ c.from_residual-in_err-address-in-Read.ensures (of_read (arm c.in_ok-line.ensures c.in-Read.is)) c.in_err-address-in-Read.ensures

pub number-cell-requires : goal.number-cell-requires
number-cell-requires t c = falls c.decreases c.requires (arm c.in_ok-line.ensures c.in-Read.is).fit.0

pub number-number-requires-in-Ext : goal.number-number-requires-in-Ext
number-number-requires-in-Ext t c = falls c.decreases c.requires (arm c.in_ok-line.ensures c.in-Ext.is).fit

pub number-number-requires-in-Ite : goal.number-number-requires-in-Ite
number-number-requires-in-Ite t c = falls c.decreases c.requires (arm c.in_ok-line.ensures c.in-Ite.is).fit.0

pub number-returns-in_err-condition-in-Ite : goal.number-returns-in_err-condition-in-Ite
number-returns-in_err-condition-in-Ite t c = refused _ _ c.from_residual-in_err-condition-in-Ite.ensures (of_ite (arm c.in_ok-line.ensures c.in-Ite.is)) c.in_err-condition-in-Ite.ensures

pub number-number-requires-in-Ite-2 : goal.number-number-requires-in-Ite-2
number-number-requires-in-Ite-2 t c =
    let e = (arm c.in_ok-line.ensures c.in-Ite.is).fit in
    elim c.if-condition-eq1.branch [
      | number-then-condition-eq1 w ↦ falls c.decreases c.requires (rw w.chosen-is e.1)
      | number-else-condition-eq1 w ↦ falls c.decreases c.requires (rw w.chosen-is e.2)
    ]

pub number-two-requires : goal.number-two-requires
number-two-requires t c = both_fall c.decreases c.requires (arm c.in_ok-line.ensures c.in-Binary.is).fit

pub number-returns-in_err-x-in-Binary : goal.number-returns-in_err-x-in-Binary
number-returns-in_err-x-in-Binary t c = passed_on _ _ c.from_residual-in_err-x-in-Binary.ensures (of_bin (arm c.in_ok-line.ensures c.in-Binary.is)) (c.in_err-x-in-Binary.ensures _)

pub number-returns-in_ok-x-in-Binary : goal.number-returns-in_ok-x-in-Binary
number-returns-in_ok-x-in-Binary t c = worked_out c.binary.ensures (c.in_ok-x-in-Binary.ensures (binary (bin_from c.in-Binary.f))) (of_bin (arm c.in_ok-line.ensures c.in-Binary.is))

pub number-two-requires-in-Eq : goal.number-two-requires-in-Eq
number-two-requires-in-Eq t c = both_fall c.decreases c.requires (arm c.in_ok-line.ensures c.in-Eq.is).fit

pub number-returns-in_err-x-in-Eq : goal.number-returns-in_err-x-in-Eq
number-returns-in_err-x-in-Eq t c = passed_on _ _ c.from_residual-in_err-x-in-Eq.ensures (of_eq (arm c.in_ok-line.ensures c.in-Eq.is)) (c.in_err-x-in-Eq.ensures _)

pub number-returns-in_ok-x-in-Eq : goal.number-returns-in_ok-x-in-Eq
unfolding bvcomp
number-returns-in_ok-x-in-Eq t c = worked_out (c.from.ensures ∙ bit_is _) (c.in_ok-x-in-Eq.ensures (bvcomp)) (of_eq (arm c.in_ok-line.ensures c.in-Eq.is))

pub number-two-requires-in-And : goal.number-two-requires-in-And
number-two-requires-in-And t c = both_fall c.decreases c.requires (arm c.in_ok-line.ensures c.in-And.is).fit

pub number-returns-in_err-x-in-And : goal.number-returns-in_err-x-in-And
number-returns-in_err-x-in-And t c = passed_on _ _ c.from_residual-in_err-x-in-And.ensures (of_and (arm c.in_ok-line.ensures c.in-And.is)) (c.in_err-x-in-And.ensures _)

pub number-returns-in_ok-x-in-And : goal.number-returns-in_ok-x-in-And
unfolding bvand
number-returns-in_ok-x-in-And t c = worked_out refl (c.in_ok-x-in-And.ensures (bvand)) (of_and (arm c.in_ok-line.ensures c.in-And.is))

pub number-two-requires-in-Or : goal.number-two-requires-in-Or
number-two-requires-in-Or t c = both_fall c.decreases c.requires (arm c.in_ok-line.ensures c.in-Or.is).fit

pub number-returns-in_err-x-in-Or : goal.number-returns-in_err-x-in-Or
number-returns-in_err-x-in-Or t c = passed_on _ _ c.from_residual-in_err-x-in-Or.ensures (of_or (arm c.in_ok-line.ensures c.in-Or.is)) (c.in_err-x-in-Or.ensures _)

pub number-returns-in_ok-x-in-Or : goal.number-returns-in_ok-x-in-Or
unfolding bvor
number-returns-in_ok-x-in-Or t c = worked_out refl (c.in_ok-x-in-Or.ensures (bvor)) (of_or (arm c.in_ok-line.ensures c.in-Or.is))

pub number-number-requires-in-Not : goal.number-number-requires-in-Not
number-number-requires-in-Not t c = falls c.decreases c.requires (arm c.in_ok-line.ensures c.in-Not.is).fit.1

pub number-returns-in_err-operand-in-Not : goal.number-returns-in_err-operand-in-Not
number-returns-in_err-operand-in-Not t c = refused _ _ c.from_residual-in_err-operand-in-Not.ensures (of_not (arm c.in_ok-line.ensures c.in-Not.is)) c.in_err-operand-in-Not.ensures

pub number-returns-in-Const : goal.number-returns-in-Const
number-returns-in-Const t c = of_const (arm c.in_ok-line.ensures c.in-Const.is)

pub number-returns-in_ok-address-in-Read : goal.number-returns-in_ok-address-in-Read
number-returns-in_ok-address-in-Read t c = valued (of_read (arm c.in_ok-line.ensures c.in-Read.is)) c.in_ok-address-in-Read.ensures c.cell.ensures

pub number-returns-in-Ext : goal.number-returns-in-Ext
number-returns-in-Ext t c = c.number-in-Ext.ensures ∙ sym (of_ext (arm c.in_ok-line.ensures c.in-Ext.is))

pub number-returns-after-condition-eq1 : goal.number-returns-after-condition-eq1
number-returns-after-condition-eq1 t c =
    valued (of_ite (arm c.in_ok-line.ensures c.in-Ite.is)) c.in_ok-condition-in-Ite.ensures (elim c.if-condition-eq1.branch [
      | number-then-condition-eq1 w ↦ (rw w.chosen-is at c.number-in-Ite-2.ensures) ∙ if_one _ _ w.if-condition-eq1.true
      | number-else-condition-eq1 w ↦ (rw w.chosen-is at c.number-in-Ite-2.ensures) ∙ if_other _ _ w.if-condition-eq1.false
    ])

pub number-returns-in_ok-operand-in-Not : goal.number-returns-in_ok-operand-in-Not
number-returns-in_ok-operand-in-Not t c = valued (of_not (arm c.in_ok-line.ensures c.in-Not.is)) c.in_ok-operand-in-Not.ensures (rw c.not.ensures refl)

pub number-returns-in-Write : goal.number-returns-in-Write
number-returns-in-Write t c = of_bare c.in_ok-line.ensures c.in-Write.is

pub number-returns-in-State : goal.number-returns-in-State
number-returns-in-State t c = of_given c.in_ok-line.ensures c.in-State.is c.given.ensures

pub two-number-requires : goal.two-number-requires
two-number-requires t c = (omega arith, c.requires.first)

pub two-returns-in_err-x : goal.two-returns-in_err-x
two-returns-in_err-x t c = first_refused _ _ _ _ _ c.from_residual.ensures c.in_err-x.ensures

pub two-number-requires-2 : goal.two-number-requires-2
two-number-requires-2 t c = (omega arith, c.requires.second)

pub two-returns-in_err-y : goal.two-returns-in_err-y
two-returns-in_err-y t c = second_refused _ _ _ _ _ c.from_residual-in_err-y.ensures c.in_ok-x.ensures c.in_err-y.ensures

pub two-returns : goal.two-returns
two-returns t c = two_values _ _ _ c.in_ok-x.ensures c.in_ok-y.ensures
