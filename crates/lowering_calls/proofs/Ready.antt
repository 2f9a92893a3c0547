-- What a call gives apart from the roles, by the number of its refusal; and one that is not refused has room, so that the counts after it fit.
-- Assumes nothing.
use Prim.Native.Nat.{ℕ, ◌<◌, ◌^◌}
use mathlib.Core.Path.{◌≡◌}
use mathlib.Core.Bool.{Bool, true, false}
use native.Mathlib.Omega.{arith}
use borrow.Author.Tests.{ne_eqb}
use lib.ListN.{length}
use Rattle.btor2.specs.declared.NodeRef.{NodeRef}
use Rattle.btor2_list.specs.Limits.{most_nid}
use Rattle.builder.specs.Append.{run_for}
use Rattle.builder.specs.declared.Tally.{Tally}
use Rattle.riscv.specs.declared.Instruction.{Instruction}
use Rattle.riscv.specs.Refusal.{first}
use Rattle.state.specs.declared.Counts.{Counts}
use Rattle.state.specs.declared.roles.Reads.{Reads}
use Rattle.state.specs.declared.room.Room.{Room}
use Rattle.state.specs.Room.{room_of, counts_out}
use Rattle.state.proofs.Within.{within}
use Rattle.lowering_refusals.specs.Refusal.{needs, tests_of_record, refusal_given}
use Rattle.lowering_refusals.proofs.Accepted.{counts_in, roomy}
use Rattle.lowering.specs.Lines.{program_from}
use Rattle.lowering.specs.Lowering.{Lent, room_in}
use Rattle.lowering_calls.specs.Apart.{accepted_apart, refused_apart, call_apart}
use Rattle.lowering_calls.specs.Bounds.{Ready}

module _ (fits : Bool) (l : Lent) (t : Tally) (c : Counts) (i : Instruction) (address : ℕ) (flag : NodeRef) where
  abbrev pub refusal : ℕ
  refusal = refusal_given fits l.list (room_in l) t c i address flag.0

  pub counts_refused : counts_out most_nid (room_in l) t c ≡ true → 9 ≡ refusal
  unfolding refusal_given
  counts_refused h = rw h

  pub roles_refused : counts_out most_nid (room_in l) t c ≡ false → fits ≡ false → 13 ≡ refusal
  unfolding refusal_given
  roles_refused h e = rw (h, e)

  pub record_weighed : counts_out most_nid (room_in l) t c ≡ false → fits ≡ true → first (tests_of_record l.list (room_in l) t c i address flag.0) ≡ refusal
  unfolding refusal_given
  record_weighed h e = rw (h, e)

  -- the room is that of lists, whose lengths fit
  pub ready : 0 ≡ refusal → (needed : Room) → needed ≡ needs i address → length l.names < 2 ^ 64 → length l.edges < 2 ^ 64 → length l.dispatches < 2 ^ 64 → length l.bads < 2 ^ 64 → Ready t c needed i address
  unfolding room_of
  ready none needed is hn he hd hb =
      let accepted : refusal ≡ 0 = cc in
      let r = roomy fits l.list (room_in l) t c i address flag.0 accepted in
      record {
        lines = (within most_nid (room_in l) t c (counts_in fits l.list (room_in l) t c i address flag.0 accepted)).most;
        added = rw is (record { names = omega (arith, r.names); edges = omega (arith, r.edges); dispatches = omega (arith, r.dispatches); bads = omega (arith, r.bads) });
        is = is;
      }

  module _ (e : Reads) where
    pub refused_is : (n : ℕ) → (n ≡ 0 → ⊥) → n ≡ refusal → refused_apart n l t c e ≡ call_apart fits l t c e i address flag
    unfolding call_apart
    refused_is n h is = rw (← is, ne_eqb n 0 h)

    pub accepted_is : 0 ≡ refusal → accepted_apart l t c i address (run_for address l.list t (program_from e c.names i address)) ≡ call_apart fits l t c e i address flag
    unfolding call_apart
    accepted_is none = rw (← none)
