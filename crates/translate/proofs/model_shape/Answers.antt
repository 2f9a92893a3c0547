-- A shape that sets no flow gives its program whatever the flows are. Assumes nothing.
use Rattle.translate.proofs.model_shape.Goals as goal

pub returns-in-Constant : goal.returns-in-Constant
returns-in-Constant c = rw c.in-Constant.is (c.constant.ensures _)

pub returns-in-Link : goal.returns-in-Link
returns-in-Link c = rw c.in-Link.is (c.link.ensures _)

pub returns-in-Addiw : goal.returns-in-Addiw
returns-in-Addiw c = rw c.in-Addiw.is (c.model_addiw.ensures _)

pub returns-in-Sltiu : goal.returns-in-Sltiu
returns-in-Sltiu c = rw c.in-Sltiu.is (c.model_sltiu.ensures _)

pub returns-in-Slliw : goal.returns-in-Slliw
returns-in-Slliw c = rw c.in-Slliw.is (c.model_slliw.ensures _)

pub returns-in-WithConstant : goal.returns-in-WithConstant
returns-in-WithConstant c = rw c.in-WithConstant.is (c.with_constant.ensures _)

pub returns-in-ShiftedBack : goal.returns-in-ShiftedBack
returns-in-ShiftedBack c = rw c.in-ShiftedBack.is (c.shifted_back.ensures _)

pub returns-in-Shifted : goal.returns-in-Shifted
returns-in-Shifted c = rw c.in-Shifted.is (c.shifted.ensures _)

pub returns-in-Sltu : goal.returns-in-Sltu
returns-in-Sltu c = rw c.in-Sltu.is (c.model_sltu.ensures _)

pub returns-in-Sllw : goal.returns-in-Sllw
returns-in-Sllw c = rw c.in-Sllw.is (c.model_sllw.ensures _)

pub returns-in-WithRegister : goal.returns-in-WithRegister
returns-in-WithRegister c = rw c.in-WithRegister.is (c.with_register.ensures _)

pub returns-in-Divw : goal.returns-in-Divw
returns-in-Divw c = rw c.in-Divw.is (c.model_divw.ensures _)

pub returns-in-Branch : goal.returns-in-Branch
returns-in-Branch c = rw c.in-Branch.is (c.model_branch.ensures _)
