-- One store, where there is a flow. Assumes nothing.
use Rattle.std.proofs.Common.{◌+◌, arith, lt-ltb, le-ltb, eq-eqb, ne_eqb}
use Rattle.riscv.specs.Format.{last_register}
use Rattle.state.specs.Roles.{register_flows}
use Rattle.state.proofs.Put.{unchanged, put, kept_is}
use Rattle.state.proofs.put_register.Goals as goal

pub returns-then-rd-lt1 : goal.returns-then-rd-lt1
returns-then-rd-lt1 c = rw (eq-eqb c.args.rd 0 (omega arith)) (kept_is (unchanged c.args.words.now c.requires))

pub returns-in-1-to-31 : goal.returns-in-1-to-31
returns-in-1-to-31 c =
    let a = c.args in
    rw (ne_eqb a.rd 0 (λ e. omega (arith, e)), le-ltb last_register a.rd (omega arith))
    (kept_is (put (unchanged a.words.now c.requires) (register_flows + a.rd) a.x.0 (omega arith)))

pub returns-else-rd-lt32 : goal.returns-else-rd-lt32
returns-else-rd-lt32 c = rw (ne_eqb c.args.rd 0 (λ e. omega (arith, e)), lt-ltb last_register c.args.rd (omega arith)) (kept_is (unchanged c.args.words.now c.requires))
