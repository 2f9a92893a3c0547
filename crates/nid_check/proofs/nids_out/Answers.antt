-- The identifiers from this line on break the rule where all do, as long as those before did not. Assumes nothing.
use Rattle.std.specs.Prelude.{Option, None}
use Prim.Native.Nat.{ℕ, ◌<◌, ◌≤◌}
use mathlib.Core.Path.{◌≡◌, refl, sym, ◌∙◌}
use mathlib.Core.Bool.{cond}
use mathlib.Core.List.{List}
use native.Mathlib.Omega.{arith}
use borrow.Author.Tests.{lt-ltb, le-ltb}
use lib.ListN.{length}
use Rattle.btor2_list.specs.Record.{holds, record_at, capacity}
use Rattle.btor2_list.specs.Node.{node_of}
use Rattle.btor2_list.specs.View.{view}
use Rattle.nid_check.specs.Identifiers.{taken, nids_out}
use Rattle.nid_check.specs.Inside.{rise_of}
use Rattle.nid_check.proofs.Rising.{rise_on, rise_hit, rise_end, next_low}
use Rattle.nid_check.proofs.nids_out.Goals.{then-capacity-lines-via-then-capacity-lines, then-capacity-lines-via-else-capacity-lines+then-next-le-LAST_SORT}
use Rattle.nid_check.proofs.nids_out.Goals as goal

-- what the line's check says, the words holding it
one : (ws : List ℕ) (i next last : ℕ) {r : Option ℕ} → i < capacity (length ws) → r ≡ cond (holds ws i) (rise_of next last (node_of (record_at ws i))) None
    → rise_of next last (node_of (record_at ws i)) ≡ r
one ws i next last there e = sym (rw (lt-ltb _ _ there) at e)

pub returns-then-capacity-lines : goal.returns-then-capacity-lines
unfolding nids_out
returns-then-capacity-lines c =
    let a = c.args in
    elim c.then-capacity-lines.branch [
      | then-capacity-lines-via-then-capacity-lines w ↦ let over : capacity (length a.list.now) < a.lines = omega arith in rw (lt-ltb _ _ over)
      | then-capacity-lines-via-else-capacity-lines+then-next-le-LAST_SORT w ↦
          let room : a.lines ≤ capacity (length a.list.now) = omega arith in
          rw (le-ltb _ _ room) (sym (next_low a.next 0 (taken (view a.list.now a.lines)) w.if-next-le-LAST_SORT.true))
    ]

pub loop-i-init : goal.loop-i-init
loop-i-init c = (omega arith, omega arith, refl)

pub returns-in_default : goal.returns-in_default
unfolding nids_out
returns-in_default c =
    let a = c.args in
    rw (le-ltb (capacity (length a.list.now)) a.lines c.loop-i.invariant.0)
    (sym (sym c.loop-i.invariant.2 ∙ rise_hit a.list.now a.lines a.next c.loop-i.last c.loop-i.i (omega arith) (one a.list.now c.loop-i.i a.next c.loop-i.last (omega arith) c.in_default.ensures)))

pub loop-i-preserved : goal.loop-i-preserved
loop-i-preserved c =
    let a = c.args in (
      c.loop-i.invariant.0,
      c.loop-i.invariant.1,
      rise_on a.list.now a.lines a.next c.loop-i.last c.loop-i.i (omega arith) _ (one a.list.now c.loop-i.i a.next c.loop-i.last (omega arith) c.in-Some.ensures) ∙ c.loop-i.invariant.2,
    )

pub returns : goal.returns
unfolding nids_out
returns c =
    let a = c.args in
    rw (le-ltb (capacity (length a.list.now)) a.lines c.loop-i.invariant.0)
    (sym (sym c.loop-i.invariant.2 ∙ rise_end a.list.now a.lines a.next c.loop-i.last c.loop-i.i (omega arith) c.loop-i.invariant.1))
