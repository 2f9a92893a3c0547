-- By the kind, the mark of an init, and the sort. Assumes nothing.
use mathlib.Core.Path.{sym, ap}
use mathlib.Core.Bool.{Bool, cond}
use Rattle.btor2_list.proofs.Init.{no_init, with_init, without_init}
use Rattle.btor2_list.proofs.nids_taken.Goals.{else-line-eq-STATE-via-then-line-eq-STATE+then-line-ne0+else-is_some, else-line-eq-STATE-via-then-line-eq-STATE+else-line-ne0, else-line-eq-STATE-via-else-line-eq-STATE}
use Rattle.btor2_list.proofs.nids_taken.Goals as goal

pub returns-then-is_some : goal.returns-then-is_some
returns-then-is_some c =
    let h = with_init c.args.line c.if-line-eq-STATE.true c.if-line-ne0.true in
    rw (h, ← c.sort_of.ensures, ← c.if-is_some.ensures)

pub returns-else-line-eq-STATE : goal.returns-else-line-eq-STATE
returns-else-line-eq-STATE c = elim c.else-line-eq-STATE.branch [
  | else-line-eq-STATE-via-then-line-eq-STATE+then-line-ne0+else-is_some w ↦
      let h = with_init c.args.line w.if-line-eq-STATE.true w.if-line-ne0.true in
      rw (h, ← w.sort_of.ensures, ← w.if-is_some.ensures)
  | else-line-eq-STATE-via-then-line-eq-STATE+else-line-ne0 w ↦ sym (without_init c.args.line w.if-line-eq-STATE.true w.if-line-ne0.false)
  | else-line-eq-STATE-via-else-line-eq-STATE w ↦ ap (λ (b : Bool). cond b 2 1) (sym (no_init c.args.line w.if-line-eq-STATE.false))
]
