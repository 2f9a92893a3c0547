-- Each arm is a row of the table, and any other kind has none. Assumes nothing.
use Rattle.std.proofs.Common.{⊎_elim}
use Rattle.riscv.specs.declared.Kind.TheVariants.{Lui, Auipc, Srai, Slliw, Srliw, Sraiw, Jal, Jalr}
use Rattle.riscv.specs.Constant.{constant_of}
use Rattle.riscv.proofs.Numbered.{apart}
use Rattle.riscv_rows.proofs.constant.constant_of.Goals as goal

pub returns-in-Lui : goal.returns-in-Lui
unfolding constant_of
returns-in-Lui c = rw (← c.at.ensures, c.in-Lui.is) c.upper_immediate.ensures

pub returns-in-Auipc : goal.returns-in-Auipc
unfolding constant_of
returns-in-Auipc c = rw (← c.at.ensures, c.in-Auipc.is, c.upper_immediate-in-Auipc.ensures)

pub returns-in-Srai : goal.returns-in-Srai
unfolding constant_of
returns-in-Srai c = rw (← c.at.ensures, c.in-Srai.is)

pub returns-in-Slliw : goal.returns-in-Slliw
unfolding constant_of
returns-in-Slliw c = rw (← c.at.ensures) (⊎_elim (λ e. rw e) (λ e. rw e) c.in-Slliw.is)

pub returns-in-Sraiw : goal.returns-in-Sraiw
unfolding constant_of
returns-in-Sraiw c = rw (← c.at.ensures, c.in-Sraiw.is)

pub returns-in-Jal : goal.returns-in-Jal
unfolding constant_of
returns-in-Jal c = rw (← c.at.ensures) (⊎_elim (λ e. rw e) (λ e. rw e) c.in-Jal.is)

pub returns-in_default : goal.returns-in_default
unfolding constant_of
returns-in_default c =
    let k = c.at.result in
    let other = c.in_default in
    rw (← c.at.ensures, apart k Lui other.not-Lui, apart k Auipc other.not-Auipc, apart k Srai other.not-Srai, apart k Slliw other.not-Slliw, apart k Srliw other.not-Srliw, apart k Sraiw other.not-Sraiw, apart k Jal other.not-Jal, apart k Jalr other.not-Jalr)
