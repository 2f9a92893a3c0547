-- One call: refused, all stays; accepted, the instruction's lines stand after the others and all else stays. Assumes nothing.
use Rattle.std.specs.Prelude.{Some}
use Prim.Native.Nat.{ℕ, ◌+◌, ◌≤◌}
use mathlib.Core.Path.{◌≡◌, refl, sym, ap, subst, ◌∙◌}
use mathlib.Core.Bool.{true}
use native.Mathlib.Omega.{arith}
use native.Mathlib.Nat.{add-zero}
use borrow.Author.Tests.{ne_eqb}
use lib.Dec.{ltb}
use lib.ListN.{length}
use Rattle.btor2.specs.declared.NodeRef.{NodeRef}
use Rattle.builder.specs.Append.{run_for}
use Rattle.riscv.specs.Class.{class}
use Rattle.riscv.proofs.Most.{at_most}
use Rattle.riscv.specs.declared.Instruction.{Instruction}
use Rattle.riscv.specs.Kind.{kind_at}
use Rattle.riscv.specs.Zeros.{zeros_of}
use Rattle.state.specs.declared.State.{State}
use Rattle.lowering_refusals.specs.Refusal.{needs_of, refusal_of}
use Rattle.state.specs.Room.{room_of}
use Rattle.btor2_list.specs.Limits.{most_nid}
use Rattle.state.proofs.Within.{within}
use Rattle.lowering_refusals.proofs.Accepted as A
use Rattle.lowering.specs.Lines.{name_for, program_with}
use Rattle.lowering.specs.Lowering.{Lent, program_of, settled, room_in, refused, lowering_given, lowering}
use Rattle.builder.specs.Lines.{lines_of, place_after}
use Rattle.lowering_laws.specs.Lines.{taking}
use Rattle.lowering_laws.specs.Accepted.{growth, Accepted}
use Rattle.lowering_laws.proofs.EachKind.{reads}
use Rattle.lowering_laws.proofs.Growth.{fitting, grows, takes, fits, name_fits}
use Rattle.lowering_laws.proofs.Laid.{RoomForLines, Laid, laid}
use Rattle.lowering_laws.proofs.Elsewhere.{edges_else, names_else, dispatches_else, bads_else}

module _ (l : Lent) (st : State) (i : Instruction) (address : ℕ) (flag : NodeRef) where
  abbrev number : ℕ
  number = refusal_of l.list (room_in l) st i address flag.0

  pub when_refused : (number ≡ 0 → ⊥) → lowering l st i address flag ≡ refused number l st
  unfolding lowering_given
  when_refused h = rw (ne_eqb number 0 h)

  small : ltb (name_for (class (kind_at i.kind)) (zeros_of i) st.counts.names address).area 256 ≡ true
  small = name_fits (class (kind_at i.kind)) (zeros_of i) st.counts.names address

  grown : (at : ℕ → ℕ) → length (lines_of at 0 (program_of st i address flag)) ≡ growth i
  unfolding program_of program_with
  grown at = sym (ap (λ r. length r.lines) (reads at _ _ _ _ _ _ (kind_at i.kind) _)) ∙ grows at _ _ _ _ _ _ small (kind_at i.kind) _

  taken : (at : ℕ → ℕ) → taking (lines_of at 0 (program_of st i address flag)) ≡ growth i
  unfolding program_of program_with
  taken at = sym (ap (λ r. taking r.lines) (reads at _ _ _ _ _ _ (kind_at i.kind) _)) ∙ takes at _ _ _ _ _ _ small (kind_at i.kind) _

  fit : (at : ℕ → ℕ) → fitting (lines_of at 0 (program_of st i address flag)) ≡ true
  unfolding program_of program_with
  fit at = sym (ap (λ r. fitting r.lines) (reads at _ _ _ _ _ _ (kind_at i.kind) _)) ∙ fits at _ _ _ _ _ _ small (kind_at i.kind) _

  module _ (e : number ≡ 0) where
    nid_in_lem : st.tally.nid ≤ most_nid
    nid_in_lem =
        (within most_nid (room_in l) st.tally st.counts (A.counts_in _ l.list (room_in l) st.tally st.counts i address flag.0 e)).nids

    pub room : RoomForLines l.list st.tally (growth i) (growth i)
    unfolding room_of needs_of
    room = record {
      lines = (A.roomy _ l.list (room_in l) st.tally st.counts i address flag.0 e).lines;
      nids = omega (arith, nid_in_lem, at_most (kind_at i.kind) (zeros_of i));
    }

    abbrev after_them : ℕ → ℕ
    after_them = place_after st.tally.lines

    pub run : Laid (Some address) st.tally.lines 0 (growth i) l.list st.tally (program_of st i address flag) (run_for address l.list st.tally (program_of st i address flag))
    run =
        subst (λ m. Laid (Some address) st.tally.lines 0 m l.list st.tally (program_of st i address flag) (run_for address l.list st.tally (program_of st i address flag))) (grown after_them)
        (laid (Some address) (program_of st i address flag) st.tally.lines 0 l.list st.tally (sym (add-zero _)) (rw (grown after_them, taken after_them) room) (fit after_them))

    pub when_accepted : Accepted l st i address flag (lowering l st i address flag)
    unfolding lowering_given settled needs_of
    when_accepted = rw e (record {
      refusal = refl;
      nodes = run.nodes;
      lines = run.lines;
      nids = run.nids ∙ ap (λ d. st.tally.nid + d) (taken after_them);
      most = at_most (kind_at i.kind) (zeros_of i);
      list = record { size = run.size; below = run.below; above = run.above };
      names = names_else st.counts.names address (class (kind_at i.kind)) (zeros_of i) l.names;
      edges = edges_else (class (kind_at i.kind)) l.edges st.counts.edges address i.imm _;
      dispatches = dispatches_else st.counts.dispatches address (class (kind_at i.kind)) (zeros_of i) l.dispatches i.rs1;
      bads = bads_else st.counts.bads address (class (kind_at i.kind)) (zeros_of i) l.bads st.tally.lines;
    })
