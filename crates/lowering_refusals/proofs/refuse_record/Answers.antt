-- A record that was not refused has no number of its own; the other tests come in the definition's order. Assumes nothing.
use Rattle.std.proofs.Common.{sym, eq-eqb}
use Rattle.lowering_refusals.specs.Refusal.{flag_out}
use Rattle.riscv.specs.Refusal.{refusal}
use Rattle.lowering_refusals.proofs.refuse_record.Goals as goal

pub returns-then-flag_out : goal.returns-then-flag_out
unfolding flag_out
returns-then-flag_out c =
    rw (eq-eqb (refusal c.args.i) 0 (sym c.in_ok-check.ensures), ← c.requires.class, ← c.requires.zeros, ← c.flag_out.ensures, c.if-flag_out.true)

pub returns-then-room_out : goal.returns-then-room_out
unfolding flag_out
returns-then-room_out c =
    rw (eq-eqb (refusal c.args.i) 0 (sym c.in_ok-check.ensures), ← c.requires.class, ← c.requires.zeros, ← c.flag_out.ensures, c.if-flag_out.false, ← c.room_out.ensures, c.if-room_out.true)

pub returns : goal.returns
unfolding flag_out
returns c =
    rw (eq-eqb (refusal c.args.i) 0 (sym c.in_ok-check.ensures), ← c.requires.class, ← c.requires.zeros, ← c.flag_out.ensures, c.if-flag_out.false, ← c.room_out.ensures, c.if-room_out.false)
