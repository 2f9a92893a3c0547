-- The later tests; the check computes the first ones. Assumes nothing.
use Rattle.std.proofs.Common.{arith}
use Rattle.state.proofs.RoleSorts.{registers_lem, memories_lem, words_lem, bits_lem}
use Rattle.state.proofs.roles_check.role_sort.Goals as goal

pub returns-in-4-2-clause-is : goal.returns-in-4-2-clause-is
returns-in-4-2-clause-is c = memories_lem c.args.role (omega arith) (omega arith)

pub returns-in_default-2-clause-is : goal.returns-in_default-2-clause-is
returns-in_default-2-clause-is c = registers_lem c.args.role (omega arith) (omega arith)

pub returns-in_default-3-clause-is : goal.returns-in_default-3-clause-is
returns-in_default-3-clause-is c = words_lem c.args.role (omega arith) (omega arith)

pub returns-in-0-2-clause-is : goal.returns-in-0-2-clause-is
returns-in-0-2-clause-is c = bits_lem c.args.role (omega arith)
