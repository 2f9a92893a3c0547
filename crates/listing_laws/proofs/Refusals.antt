-- In every state that the listing reaches, the counts, the roles and the flag are as a call asks. Assumes nothing.
use Rattle.std.specs.Prelude.{Option, Some, None}
use Prim.Native.Nat.{ℕ, ◌+◌, ◌/◌, ◌≤◌}
use mathlib.Core.Path.{◌≡◌, refl, sym, ◌∙◌, ap}
use mathlib.Core.Bool.{Bool, true, false, ◌&&◌}
use mathlib.Core.List.{List, [], ◌∷◌}
use native.Mathlib.Omega.{arith}
use borrow.Author.Tests.{le-ltb, eqb-true, eqb-false, not-false}
use lib.Dec.{eqb}
use lib.ListN.{length, get_or, replicate, get_or-append}
use Rattle.btor2.specs.declared.NodeRef.{NodeRef}
use Rattle.btor2.specs.Op.{carried}
use Rattle.btor2_list.specs.Record.{capacity, words_for}
use Rattle.btor2_list.specs.Node.{Node, no_node}
use Rattle.btor2_list.specs.View.{view}
use Rattle.btor2_list.specs.Look.{seen, look_at}
use Rattle.btor2_list.proofs.Seen.{look_line}
use Rattle.btor2_list.proofs.View.{view-length}
use Rattle.riscv.specs.Zeros.{zeros_of}
use Rattle.riscv.specs.Class.{needs_flag}
use Rattle.listing_bytes.specs.Step.{emptied, parsed_step, step}
use Rattle.listing_bytes.specs.Storage.{listing_lines, start_lent}
use Rattle.listing_bytes.specs.Listing.{steps, reached}
use Rattle.listing_bytes.proofs.Room.{Kept, zeros, start_kept, emptied_kept, call_kept, lines_decide}
use Rattle.listing_bytes.proofs.Core.{one_call}
use Rattle.listing_input.specs.declared.line.Parsed.{Parsed}
use Rattle.listing_input.specs.Line.{parse_line}
use Rattle.listing_start.specs.Start.{first_nid, start_lines, placed, start_names, concat, start_name, named_states, start_ops, start_in, start_state}
use Rattle.state.specs.declared.State.{State}
use Rattle.lowering_refusals.specs.Refusal.{flag_out, refusal_given, refusal_of}
use Rattle.state.specs.Room.{room_of, counts_out}
use Rattle.btor2_list.specs.Limits.{most_lines, most_nid}
use Rattle.lowering.specs.Lowering.{Lent, room_in, lowering}
use Rattle.lowering_laws.specs.Lines.{numbered}
use Rattle.lowering_laws.proofs.OneCall.{when_accepted, when_refused}
use Rattle.riscv.specs.declared.Instruction.{Instruction}
use Rattle.riscv.specs.Kind.{kind_at}
use Rattle.state.specs.RolesFit.{value_sort, roles_fit}
use Rattle.roles_kept.proofs.Call.{called, refusal_is, roled_after, roles_keep}
use Rattle.listing_laws.specs.Refusals.{OwnNumberOrFull}
use Rattle.listing_laws.proofs.Accepted.{lines_put, roles_put, given}

abbrev flag : NodeRef
flag = placed 58

pub record Sound (l : Lent) (st : State) : Type 0 where
  pub kept : Kept l st
  pub begun : start_lines ≤ st.tally.lines
  pub nids : st.tally.nid ≡ st.tally.lines + first_nid
  pub size : length st.roles ≡ 79
  pub roles : roles_fit l.list st.tally.lines 0 st.roles ≡ true
  pub bit : value_sort (look_at l.list st.tally.lines flag.0) ≡ 1

nowhere : Node
nowhere = no_node

held : (l : Lent) (st : State) → Kept l st → words_for st.tally.lines ≤ length l.list
held l st k = omega (arith, k.list, k.lines)

-- ---- the start

flag_line : value_sort (seen (get_or (numbered None first_nid start_ops) flag.0 nowhere)) ≡ 1
unfolding start_names concat start_name named_states start_ops numbered carried
flag_line = refl

start_sound : Sound start_lent start_state
unfolding start_lent start_state
start_sound =
    let ws = replicate {A = ℕ} (words_for listing_lines) 0 in
    let room : words_for start_lines ≤ length ws = omega (arith, zeros (words_for listing_lines)) in
    record {
      kept = start_kept;
      begun = omega arith;
      nids = refl;
      size = given;
      roles = not-false _ (roles_put ws room);
      bit =
          ap value_sort (look_line (start_in ws) start_lines (held start_lent start_state start_kept) flag.0 nowhere (omega arith))
          ∙ ap (λ (v : List Node). value_sort (seen (get_or v flag.0 nowhere))) (lines_put ws room) ∙ flag_line;
    }

-- ---- a call

module _ (l : Lent) (st : State) (s : Sound l st) (i : Instruction) (address : ℕ) where
  accepted_sound : refusal_of l.list (room_in l) st i address flag.0 ≡ 0 → Sound (lowering l st i address flag).lent (lowering l st i address flag).lowered.state
  accepted_sound e =
      let a = when_accepted l st i address flag e in
      let kept = call_kept l st i address s.kept (one_call l st i address flag) in
      record {
        kept = kept;
        begun = omega (arith, a.lines, s.begun);
        nids = omega (arith, a.lines, a.nids, s.nids);
        size = (roled_after (called l st i address flag) (record { size = s.size; passed = e })).size;
        roles = roles_keep l st i address flag s.size a.refusal;
        bit =
            ap value_sort (look_line _ _ (held _ _ kept) flag.0 nowhere (omega (arith, a.lines, s.begun)))
            ∙ ap (λ (v : List Node). value_sort (seen (get_or v flag.0 nowhere))) a.nodes
            ∙ ap (λ (n : Node). value_sort (seen n)) (get_or-append (view l.list st.tally.lines) _ nowhere flag.0 (omega (arith, view-length l.list st.tally.lines, s.begun)))
            ∙ sym (ap value_sort (look_line l.list st.tally.lines (held l st s.kept) flag.0 nowhere (omega (arith, s.begun)))) ∙ s.bit;
      }

  call_sound : Sound (lowering l st i address flag).lent (lowering l st i address flag).lowered.state
  call_sound = go (eqb (refusal_of l.list (room_in l) st i address flag.0) 0) refl
    where
      go : (b : Bool) → eqb (refusal_of l.list (room_in l) st i address flag.0) 0 ≡ b → Sound (lowering l st i address flag).lent (lowering l st i address flag).lowered.state
      go true e = accepted_sound (eqb-true _ 0 e)
      go false e = rw (when_refused l st i address flag (eqb-false _ 0 e)) s

-- ---- lines

emptied_sound : (l : Lent) (st : State) → Sound l st → Sound l (emptied st)
unfolding emptied
emptied_sound l st s = record { kept = emptied_kept l st s.kept; begun = s.begun; nids = s.nids; size = s.size; roles = s.roles; bit = s.bit }

parsed_sound : (number : ℕ) (l : Lent) (st : State) (p : Option Parsed) → Sound l st → Sound (parsed_step number l st p).lent (parsed_step number l st p).state
parsed_sound number l st None s = s
parsed_sound number l st (Some p) s = call_sound l st s p.instruction p.address

steps_sound : (number : ℕ) (lines : List (List ℕ)) (l : Lent) (st : State) → Sound l st → Sound (steps number lines l st).lent (steps number lines l st).state
unfolding steps step
steps_sound number [] l st s = s
steps_sound number (line ∷ lines) l st s = steps_sound (number + 1) lines _ _ (parsed_sound number l (emptied st) (parse_line line) (emptied_sound l st s))

reached_sound : (lines : List (List ℕ)) → Sound (reached lines).lent (reached lines).state
unfolding reached
reached_sound lines = steps_sound _ lines start_lent start_state start_sound

-- ---- the tests of a call

and_false : (a : Bool) → (a && false) ≡ false
and_false true = refl
and_false false = refl

counts_in : (l : Lent) (st : State) → Sound l st → let e = emptied st in counts_out most_nid (room_in l) e.tally e.counts ≡ false
unfolding room_of emptied
counts_in l st s =
    let k = s.kept in
    rw (le-ltb most_lines st.tally.lines (omega (arith, k.lines)), le-ltb most_nid st.tally.nid (omega (arith, k.lines, s.nids)), le-ltb (capacity (length l.list)) st.tally.lines (omega (arith, k.lines, k.list)), le-ltb (length l.names) st.counts.names (omega (arith, k.names, k.lines, k.bad_lines, k.name_bytes)), le-ltb (length l.edges / 4) 0 (omega arith), le-ltb (length l.dispatches / 2) 0 (omega arith), le-ltb (length l.bads) st.counts.bads (omega (arith, k.bads, k.lines, k.bad_lines)))

flag_in_lem : (l : Lent) (st : State) → Sound l st → (i : Instruction) → flag_out l.list st.tally.lines i flag.0 ≡ false
unfolding flag_out
flag_in_lem l st s i = rw s.bit (and_false (needs_flag (kind_at i.kind) (zeros_of i)))

pub own_number_or_full : OwnNumberOrFull
unfolding refusal_given
own_number_or_full before i address =
    let l = (reached before).lent in
    let st = emptied (reached before).state in
    let s = emptied_sound l (reached before).state (reached_sound before) in
    refusal_is l st i address flag
    ∙ rw (counts_in l (reached before).state (reached_sound before), s.roles, flag_in_lem l st s i, lines_decide before i address)
