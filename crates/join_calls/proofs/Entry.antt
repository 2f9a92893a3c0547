-- What the tests of a join's entry tell. Assumes nothing.
use Prim.Native.Nat.{ℕ, ◌+◌, ◌*◌, ◌/◌, ◌≤◌, ◌<◌, ◌^◌}
use mathlib.Core.Path.{◌≡◌, refl, sym, ap, ◌∙◌}
use mathlib.Core.Bool.{Bool, true, false, cond, ◌&&◌, ◌||◌}
use mathlib.Core.List.{List, [], ◌∷◌}
use native.Mathlib.Omega.{arith}
use borrow.Author.Tests.{eq-eqb, le-ltb, ltb-true, ltb-false, eqb-true}
use lib.Dec.{eqb, ltb}
use lib.ListN.{length, take}
use lib.Seq.{length-take-le}
use Rattle.bitvec.proofs.Truth.{neither}
use Rattle.btor2.specs.declared.NodeRef.{NodeRef}
use Rattle.btor2_list.specs.Record.{holds, capacity}
use Rattle.btor2_list.specs.declared.Looked.{Looked}
use Rattle.btor2_list.specs.Look.{outside}
use Rattle.btor2_list.specs.Limits.{most_lines}
use Rattle.edges.specs.Edges.{edge_stride, dispatch_stride}
use Rattle.list_check.specs.Lines.{any}
use Rattle.state.specs.Roles.{role, zero_bit}
use Rattle.state.specs.RolesFit.{value_sort, roles_fit}
use Rattle.join.specs.Given.{flag_stride, flag_for, dynamics_in, edges_in, dispatches_in, flags_in}
use Rattle.join.specs.Program.{names_of, nexts_of}
use Rattle.join_calls.proofs.InChunks.{edges_taken, dispatches_taken, flags_taken}
use Rattle.join.specs.Refusal.{join_program, join_refusal, JoinLent, JoinInput, edges_of, dispatches_of, flags_of, zero_in, bit_out, unflagged, entry_out, edge_out, dispatch_out, join_counts_out, flags_out, join_line_count, join_room_out}
use Rattle.state.specs.Words.{state_words, roles_in, state_of, state_in, with_state, counts_stored}
use Rattle.state.proofs.Words.{state_kept}
use Rattle.join.specs.Join.{JoinAnswer, join_answer, join_refused, join_settled, join_store, joining}
use Rattle.join.specs.Words.{given_join, join_by, joining_words}
use Rattle.join.specs.Listed.{append_listed}
use Rattle.builder.specs.Prog.{exec}
use Rattle.join.proofs.Laws.{roles_stay, refused_leaves}
use Rattle.join.specs.declared.JoinHeld.{JoinHeld}
use Rattle.join.proofs.Numbers.{records_out, within}
use Rattle.join_calls.specs.Entry.{left_of, ReadyToJoin, join_held_in}
use Rattle.join_calls.specs.Records.{all_edges, all_dispatches, all_flags, Exact, CountsWithin, asked_for}
use Rattle.join_calls.specs.Room.{exceeding}
use Rattle.join_calls.proofs.Grown.{exceeds_room}

-- a place that is a value line is below the count of lines
below : (n p : ℕ) (s : ℕ) (x : Looked) (b c : Bool) → ltb p n ≡ b → eqb (value_sort (cond (b && c) x outside)) (1 + s) ≡ true → p < n
below n p s x true c e f = ltb-true p n e
below n p s x false c e f = absurd (never f)
  where
    never : eqb 0 (1 + s) ≡ true → ⊥
    never q = let z : ◌≡◌ {A = ℕ} 0 (1 + s) = eqb-true 0 (1 + s) q in omega arith

and_first : (a b : Bool) → (a && b) ≡ true → a ≡ true
and_first true b e = refl
and_first false b e = e

-- the zero bit's place is, where the roles fit
pub zero_below : (ws : List ℕ) (n : ℕ) (roles : List NodeRef) → 0 < length roles → roles_fit ws n 0 roles ≡ true → (role roles zero_bit).0 < n
unfolding roles_fit
zero_below ws n [] l e = absurd (omega arith)
zero_below ws n (r ∷ rs) l e = below n r.0 0 _ (ltb r.0 n) (holds ws r.0) refl (and_first _ _ e)

-- ---- what is given holds the records that are asked for, and no words after them

module _ (g : JoinInput) (e : Exact g) where
  pub exact_edges : all_edges g.edges ≡ edges_of g
  exact_edges = let n : length g.edges / edge_stride ≡ g.asked.edges = omega (arith, e.edges) in ap (λ (m : ℕ). edges_in m g.edges) n

  pub exact_dispatches : all_dispatches g.dispatches ≡ dispatches_of g
  exact_dispatches = let n : length g.dispatches / dispatch_stride ≡ g.asked.dispatches = omega (arith, e.dispatches) in ap (λ (m : ℕ). dispatches_in m g.dispatches) n

  pub exact_flags : all_flags g.flags ≡ flags_of g
  exact_flags = let n : length g.flags / flag_stride ≡ g.asked.flags = omega (arith, e.flags) in ap (λ (m : ℕ). flags_in m g.flags) n

  module _ (l : JoinLent) (h : JoinHeld) where
    abbrev lines : ℕ
    lines = h.state.tally.lines

    -- 15, 16 and 8 by the tests over all records
    pub is15 : {b : Bool}
        → b ≡ (any (unflagged l.list lines (flag_for (all_flags g.flags))) (all_edges g.edges) || (any (entry_out l.list lines) (all_flags g.flags)
        || (bit_out l.list lines g.asked.mode.0 || (bit_out l.list lines g.asked.none.0 || (any (bit_out l.list lines) (dynamics_in g.dynamics) || bit_out l.list lines g.asked.flow.0)))))
        → flags_out l.list lines g ≡ b
    unfolding flags_out
    is15 told = sym (rw (exact_edges, exact_flags) at told)

    pub is16 : {b d : Bool} → b ≡ any (edge_out l.list lines) (all_edges g.edges) → d ≡ any (dispatch_out l.list lines) (all_dispatches g.dispatches) → records_out l h g ≡ (b || d)
    is16 told too = rw (told, too, exact_edges, exact_dispatches)

    pub is8 : {b : Bool} → join_counts_out l h g ≡ false → zero_in h.state < lines
        → b ≡ exceeding (λ a. eqb (flag_for (all_flags g.flags) a) (zero_in h.state)) (left_of l h g.asked.flow) (all_edges g.edges) (length g.dispatches / dispatch_stride) → join_room_out l h g ≡ b
    is8 counts zero told =
        let w = within l h g counts in
        let n : length g.dispatches / dispatch_stride ≡ g.asked.dispatches = omega (arith, e.dispatches) in
        sym (exceeds_room l h g zero w.most w.held w.names w.sequentials) ∙ sym (rw (exact_edges, exact_flags, n) at told)

-- what passed 8 fits
pub counts_fit : (l : JoinLent) (h : JoinHeld) (g : JoinInput) → Exact g → length l.names < 2 ^ 64 → length l.sequentials < 2 ^ 64 → join_room_out l h g ≡ false → ReadyToJoin h g
unfolding join_room_out
counts_fit l h g exact a b e =
    let lines = h.state.tally.lines + join_line_count h.state g in
    let p = neither (ltb most_lines lines) _ e in
    let q = neither (ltb (capacity (length l.list)) lines) _ p.1 in
    let r = neither (ltb (length l.names) (h.state.counts.names + length (names_of (edges_of g)))) _ q.1 in
    record {
      exact = exact;
      names = omega (arith, ltb-false (length l.names) (h.state.counts.names + length (names_of (edges_of g))) r.0);
      sequentials = omega (arith, ltb-false (length l.sequentials) (h.sequentials + nexts_of (edges_of g)) r.1);
    }

-- ---- the join of the records that are asked for is the join of all words

pub asked_exact : (g : JoinInput) → CountsWithin g → Exact (asked_for g)
asked_exact g w = record { edges = length-take-le _ _ w.edges; dispatches = length-take-le _ _ w.dispatches; flags = length-take-le _ _ w.flags }

accepted : (l : JoinLent) (h : JoinHeld) (g : JoinInput) → 0 ≡ join_refusal l h g → join_settled l h g (exec append_listed (join_store l h) (join_program h.state g)) ≡ joining l h g
unfolding joining
accepted l h g e = rw (eq-eqb (join_refusal l h g) 0 (sym e))

module _ (l : JoinLent) (h : JoinHeld) (g : JoinInput) (counts : join_counts_out l h g ≡ false) where
  same_counts : join_counts_out l h (asked_for g) ≡ join_counts_out l h g
  same_counts =
      let w = within l h g counts in
      let e = length-take-le (g.asked.edges * edge_stride) g.edges w.edges in
      let d = length-take-le (g.asked.dispatches * dispatch_stride) g.dispatches w.dispatches in
      let f = length-take-le (g.asked.flags * flag_stride) g.flags w.flags in
      rw (
        le-ltb (length (take (g.asked.edges * edge_stride) g.edges) / edge_stride) g.asked.edges (omega arith),
        le-ltb (length (take (g.asked.dispatches * dispatch_stride) g.dispatches) / dispatch_stride) g.asked.dispatches (omega arith),
        le-ltb (length (take (g.asked.flags * flag_stride) g.flags) / flag_stride) g.asked.flags (omega arith),
        le-ltb (length g.edges / edge_stride) g.asked.edges (omega arith),
        le-ltb (length g.dispatches / dispatch_stride) g.asked.dispatches (omega arith),
        le-ltb (length g.flags / flag_stride) g.asked.flags (omega arith),
      )

  same_join : joining l h (asked_for g) ≡ joining l h g
  unfolding joining join_settled join_refusal flags_out join_room_out join_line_count join_program
  same_join =
      let w = within l h g counts in
      rw (same_counts, edges_taken g.asked.edges g.edges w.edges, dispatches_taken g.asked.dispatches g.dispatches w.dispatches, flags_taken g.asked.flags g.flags w.flags)

  -- so it is refused for what refuses the one, and gives what the other gives
  pub refused_join : (n : ℕ) → (n ≡ 0 → ⊥) → n ≡ join_refusal l h (asked_for g) → join_refused n l h g ≡ joining l h g
  refused_join n some e = rw e (sym (refused_leaves l h (asked_for g) (λ z. some (e ∙ z))) ∙ same_join)

  pub accepted_join : 0 ≡ join_refusal l h (asked_for g) → join_settled l h (asked_for g) (exec append_listed (join_store l h) (join_program h.state (asked_for g))) ≡ joining l h g
  accepted_join e = accepted l h (asked_for g) e ∙ same_join

-- ---- over the state's words

pub words_put : (l l' : JoinLent) (ws : List ℕ) (used : ℕ) (g : JoinInput) (n flow : ℕ) (h : JoinHeld) → join_answer n flow h l' ≡ joining l (join_held_in ws used) g → state_words ≤ length ws
    → given_join n flow h.sequentials l' (counts_stored ws h.state.tally h.state.counts) ≡ joining_words l ws used g
unfolding joining_words state_in
words_put l l' ws used g n flow h e long =
    let roles : h.state.roles ≡ roles_in ws = ap (λ (a : JoinAnswer). a.held.state.roles) e ∙ roles_stay l (join_held_in ws used) g in
    rw (le-ltb (length ws) state_words long)
    (ap (λ places. given_join n flow h.sequentials l' (with_state ws (state_of h.state.tally h.state.counts places))) (sym roles) ∙ ap (join_by ws) e)

-- a refused one leaves them
pub words_left : (l l' : JoinLent) (ws : List ℕ) (used : ℕ) (g : JoinInput) (n : ℕ) → join_refused n l' (join_held_in ws used) g ≡ joining l (join_held_in ws used) g → state_words ≤ length ws
    → given_join n g.asked.flow.0 used l' ws ≡ joining_words l ws used g
unfolding joining_words
words_left l l' ws used g n e long =
    rw (le-ltb (length ws) state_words long) (ap (given_join n g.asked.flow.0 used l') (sym (state_kept ws long)) ∙ ap (join_by ws) e)
