-- What every state of the listing keeps, and that the lines alone decide about refusal 8. Assumes nothing.
use Prim.Native.Nat.{ℕ, ◌+◌, ◌*◌, ◌≤◌}
use mathlib.Core.Path.{◌≡◌, refl, ◌∙◌}
use mathlib.Core.List.{List, [], ◌∷◌}
use native.Mathlib.Omega.{arith}
use borrow.Author.Tests.{lt-ltb, le-ltb}
use lib.Dec.{ltb}
use lib.ListN.{length, replicate, drop, length-replicate, length-append, length-drop}
use Rattle.bitvec.proofs.Base.{by_le}
use Rattle.btor2_list.specs.Record.{capacity, words_for}
use Rattle.listing_input.specs.declared.line.Parsed.{Parsed}
use Rattle.std.specs.Prelude.{Option, Some, None}
use Rattle.listing_input.specs.Line.{parse_line}
use Rattle.listing_start.specs.Start.{start_lines, start_names, concat, start_name, named_states, start_ops, records, start_words, start_in, start_state}
use Rattle.riscv.specs.declared.Instruction.{Instruction}
use Rattle.state.specs.declared.State.{State}
use Rattle.lowering_refusals.specs.Refusal.{needs, room_out}
use Rattle.state.specs.Room.{room_of}
use Rattle.lowering.specs.Lowering.{Lent, Answer, counts_after, room_in}
use Rattle.edges.specs.Edges.{edge_stride, dispatch_stride}
use Rattle.listing_bytes.specs.Step.{emptied, parsed_step, step}
use Rattle.listing_bytes.specs.Storage.{listing_lines, longest_name, most_edges, most_dispatches, start_lent}
use Rattle.listing_bytes.specs.Listing.{steps, reached}
use Rattle.listing_bytes.specs.Laws.{LinesDecide}
use Rattle.listing_bytes.proofs.Core.{small, no_line_free, all_free, OneCall, stays, grows, one_call}

-- ---- what every state keeps

pub record Kept (l : Lent) (st : State) : Type 0 where
  -- what is lent keeps its lengths
  pub list : length l.list ≡ words_for listing_lines
  pub names : length l.names ≡ listing_lines * longest_name
  pub edges : length l.edges ≡ most_edges * edge_stride
  pub dispatches : length l.dispatches ≡ most_dispatches * dispatch_stride
  pub bads : length l.bads ≡ listing_lines
  -- each bad is a line, and has at most the longest name
  pub lines : st.tally.lines ≤ listing_lines
  pub bad_lines : st.counts.bads ≤ st.tally.lines
  pub name_bytes : st.counts.names ≤ st.counts.bads * longest_name

-- ---- the start

whole : length start_words ≡ words_for start_lines
unfolding start_names concat start_name named_states start_ops records start_words
whole = refl

start_length : (ws : List ℕ) → words_for start_lines ≤ length ws → length (start_in ws) ≡ length ws
unfolding start_in
start_length ws h = rw (le-ltb (capacity (length ws)) start_lines (omega arith), length-append start_words (drop (words_for start_lines) ws), whole, length-drop (words_for start_lines) ws) (omega arith)

pub zeros : (n : ℕ) → length (replicate {A = ℕ} n 0) ≡ n
zeros n = length-replicate n 0

pub start_kept : Kept start_lent start_state
unfolding start_lent start_state
start_kept = record {
  list = let n = zeros (words_for listing_lines) in start_length (replicate (words_for listing_lines) 0) (omega (arith, n)) ∙ n;
  names = zeros (listing_lines * longest_name);
  edges = zeros (most_edges * edge_stride);
  dispatches = zeros (most_dispatches * dispatch_stride);
  bads = zeros listing_lines;
  lines = omega arith;
  bad_lines = omega arith;
  name_bytes = omega arith;
}

-- ---- a line

pub emptied_kept : (l : Lent) (st : State) → Kept l st → Kept l (emptied st)
unfolding emptied
emptied_kept l st k = record {
  list = k.list;
  names = k.names;
  edges = k.edges;
  dispatches = k.dispatches;
  bads = k.bads;
  lines = k.lines;
  bad_lines = k.bad_lines;
  name_bytes = k.name_bytes;
}

pub call_kept : (l : Lent) (st : State) (i : Instruction) (address : ℕ) {a : Answer} → Kept l st → OneCall l st i address a → Kept a.lent a.lowered.state
unfolding counts_after
call_kept l st i address k (stays n h) = k
call_kept l st i address {a} k (grows g) =
    let s = small i address in
    let c = g.counts in
    record {
      list = g.list ∙ k.list;
      names = g.names ∙ k.names;
      edges = g.edges ∙ k.edges;
      dispatches = g.dispatches ∙ k.dispatches;
      bads = g.bads ∙ k.bads;
      lines = omega (arith, g.lines, g.held, k.list);
      bad_lines = rw c (omega (arith, g.lines, k.bad_lines, s.bad_lines));
      name_bytes = rw c (omega (arith, k.name_bytes, s.name_bytes));
    }

taken_kept : (number : ℕ) (l : Lent) (st : State) (p : Option Parsed) → Kept l st → Kept (parsed_step number l st p).lent (parsed_step number l st p).state
taken_kept number l st None k = k
taken_kept number l st (Some p) k = call_kept l st p.instruction p.address k (one_call l st p.instruction p.address _)

pub step_kept : (number : ℕ) (line : List ℕ) (l : Lent) (st : State) → Kept l st → Kept (step number line l st).lent (step number line l st).state
unfolding step
step_kept number line l st k = taken_kept number l (emptied st) (parse_line line) (emptied_kept l st k)

steps_kept : (number : ℕ) (lines : List (List ℕ)) (l : Lent) (st : State) → Kept l st → Kept (steps number lines l st).lent (steps number lines l st).state
unfolding steps
steps_kept number [] l st k = k
steps_kept number (line ∷ lines) l st k = steps_kept (number + 1) lines _ _ (step_kept number line l st k)

pub reached_kept : (lines : List (List ℕ)) → Kept (reached lines).lent (reached lines).state
unfolding reached
reached_kept lines = steps_kept _ lines start_lent start_state start_kept

-- ---- refusal 8

module _ (l : Lent) (st : State) (k : Kept l st) (i : Instruction) (address : ℕ) where
  lines_decide_here : let e = emptied st in
      room_out (room_in l) e.tally e.counts (needs i address) ≡ ltb listing_lines (e.tally.lines + (needs i address).lines)
  unfolding room_of emptied
  lines_decide_here =
      let n = needs i address in
      let s = small i address in
      let e = emptied st in
      by_le (st.tally.lines + n.lines) listing_lines
      (λ h.
      rw (le-ltb listing_lines (st.tally.lines + n.lines) h)
      (all_free (room_in l) e.tally e.counts n (omega arith) (omega (arith, k.list)) (omega (arith, k.names, k.name_bytes, k.bad_lines, s.name_bytes, s.bad_lines)) (omega (arith, k.edges, s.edges)) (omega (arith, k.dispatches, s.dispatches)) (omega (arith, k.bads, k.bad_lines, s.bad_lines))))
      (λ h. rw (lt-ltb listing_lines (st.tally.lines + n.lines) h) (no_line_free (room_in l) e.tally e.counts n (omega (arith, k.list))))

pub lines_decide : LinesDecide
lines_decide before i address = lines_decide_here (reached before).lent (reached before).state (reached_kept before) i address
