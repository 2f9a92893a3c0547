-- Past the end nothing is stored. After i turns the first i bytes are put, and p is the place after them. Assumes nothing.
use Prim.Native.Nat.{◌<◌}
use mathlib.Core.Path.{sym}
use native.Mathlib.Numerals.{add-one}
use native.Mathlib.Omega.{arith}
use lib.ListN.{length}
use lib.Seq.{take-suc}
use Rattle.text.proofs.Laws.{sets_out, then, put_as}
use Rattle.text.proofs.put_bytes.Goals as goal

pub returns-then-out-at : goal.returns-then-out-at
returns-then-out-at c =
    let a = c.args in
    record { list = sym (sets_out a.s.now a.out.now a.at c.if-out-at.true); next = c.saturating_add.ensures }

pub loop-b-preserved : goal.loop-b-preserved
loop-b-preserved c =
    let h : c.loop-b.b-index < length c.args.s.now = omega arith in
    put_as (then (omega arith) c.loop-b.invariant c.put_byte-p.ensures) (rw (add-one, take-suc c.args.s.now c.loop-b.b-index 0))
