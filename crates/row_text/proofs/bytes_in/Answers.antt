-- Each byte in turn. Assumes nothing.
use Prim.Native.Nat.{◌<◌}
use mathlib.Core.Path.{refl}
use mathlib.Core.List.{[], ◌∷◌}
use native.Mathlib.Numerals.{add-one}
use native.Mathlib.Omega.{arith}
use lib.ListN.{length, get_or}
use lib.Seq.{take-suc}
use Rattle.text.proofs.Laws.{then, put_as}
use Rattle.row_text.proofs.bytes_in.Goals as goal

pub loop-b-preserved : goal.loop-b-preserved
loop-b-preserved c =
    let s = c.args.bytes.now in
    let i = c.loop-b.b-index in
    let h : i < length s = omega arith in
    (put_as (then {t = get_or s i 0 ∷ []} (omega arith) c.loop-b.invariant.0 (record { list = refl; next = omega arith })) (rw (add-one, take-suc s i 0)), omega arith)
