-- A number past the last kind gives Ecall. Assumes nothing.
use Rattle.std.proofs.lemmas.Option.{unwrap_or-slice_get}
use Rattle.riscv.specs.declared.Kind.TheVariants.{Ecall}
use Rattle.riscv.specs.Kind.{kinds}
use Rattle.riscv.proofs.Kind.at.Goals as goal

pub returns : goal.returns
returns c = rw (c.unwrap_or.ensures, c.numbered.ensures) (unwrap_or-slice_get kinds c.args.number Ecall)
