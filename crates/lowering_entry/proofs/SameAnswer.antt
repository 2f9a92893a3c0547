-- The core over words of its own answers as over the records' words. Assumes nothing.
use Prim.Native.Nat.{ℕ, zero, suc, ◌+◌, ◌-◌, ◌≤◌, ◌<◌, ◌^◌}
use mathlib.Core.Path.{◌≡◌, refl, sym, ◌∙◌}
use mathlib.Core.Bool.{Bool, true, false, cond}
use mathlib.Core.List.{List}
use native.Mathlib.Omega.{arith}
use native.Mathlib.Nat.{add-zero}
use borrow.Author.Tests.{lt-ltb, le-ltb, ltb-true, ltb-false, eqb-true}
use lib.Dec.{eqb, ltb}
use lib.ListN.{length, replicate, set, length-set}
use Rattle.btor2.specs.declared.NodeRef.{NodeRef}
use Rattle.builder.specs.Append.{Store, run_for}
use Rattle.builder.specs.Prog.{Run}
use Rattle.edges.specs.Edges.{edge, edge_count, edges_after}
use Rattle.btor2_list.specs.Records.{put_record}
use Rattle.riscv.specs.declared.Class.{Class}
use Rattle.riscv.specs.declared.Class.TheVariants.{Plain, Access, Addi, Branch, Jal, Jalr, Ecall}
use Rattle.riscv.specs.Class.{class}
use Rattle.models.specs.Places as P
use Rattle.models.specs.Places.{Outcome}
use Rattle.riscv.specs.declared.Instruction.{Instruction}
use Rattle.riscv.specs.Kind.{kind_at}
use Rattle.state.specs.declared.room.Room.{Room}
use Rattle.state.specs.declared.State.{State}
use Rattle.lowering_refusals.specs.Refusal.{needs_of, needs, room_out, refusal_given, refusal_of}
use Rattle.state.specs.Room.{room_of}
use Rattle.lowering.specs.declared.Lent as L
use Rattle.lowering.specs.declared.LowerCall.{LowerCall}
use Rattle.lowering.specs.Lowering.{Lent, lent, Answer, answer, program_of, settled, counts_after, room_in, refused, lowering_given, lowering}
use Rattle.lowering_refusals.proofs.Accepted as A
use Rattle.edges.specs.declared.InEdge.{InEdge}
use Rattle.edges.specs.InEdges.{edge_words}
use Rattle.lowering_entry.specs.Parts.{edge_at, appended, used_of, with_edges, Fits}
use Rattle.edges.proofs.InEdges.{records, put_words}

-- the core's own words: two records
abbrev pub zeros : List ℕ
zeros = replicate 8 0

-- ---- the same tests

-- as many records are left
pub same_test : (count room n : ℕ) → n ≤ 2 → ltb 2 (used_of count room + n) ≡ ltb room (count + n)
same_test count room n small = go (ltb room count) refl
  where
    go : (b : Bool) → ltb room count ≡ b → ltb 2 (cond b 3 ((count + 2) - room) + n) ≡ ltb room (count + n)
    go true e = let h : room < count = ltb-true _ _ e in rw (lt-ltb 2 (3 + n) (omega arith), lt-ltb room (count + n) (omega arith))
    go false e = let h : count ≤ room = ltb-false _ _ e in by_room (ltb room (count + n)) refl
      where
        by_room : (b : Bool) → ltb room (count + n) ≡ b → ltb 2 (((count + 2) - room) + n) ≡ b
        by_room true f = let g : room < count + n = ltb-true _ _ f in lt-ltb 2 (((count + 2) - room) + n) (omega arith)
        by_room false f = let g : count + n ≤ room = ltb-false _ _ f in le-ltb 2 (((count + 2) - room) + n) (omega arith)

pub few : (count room : ℕ) → used_of count room ≤ 3
few count room = go (ltb room count) refl
  where
    go : (b : Bool) → ltb room count ≡ b → cond b 3 ((count + 2) - room) ≤ 3
    go true e = omega arith
    go false e = let h : count ≤ room = ltb-false _ _ e in omega arith

-- ---- the same edges

abbrev edge_of : ℕ → ℕ → ℕ → ℕ → InEdge
edge_of to from origin condition = record { to = to; from = from; origin = origin; condition = record { 0 = condition } }

module _ (es : List InEdge) (count u : ℕ) where
  -- one edge
  one : (to from origin condition : ℕ) → u + 1 ≤ 2 → count + 1 ≤ length es → let ws = put_record 4 zeros u (edge to from origin condition) in
      edge_words (appended es count 1 (edge_at ws u) (edge_at ws (u + 1))) ≡ put_record 4 (edge_words es) count (edge to from origin condition)
  one to from origin condition small fits = rw (back u small) (put_words es count (edge_of to from origin condition) (omega arith))
    where
      back : (u : ℕ) → u + 1 ≤ 2 → edge_at (put_record 4 zeros u (edge to from origin condition)) u ≡ edge_of to from origin condition
      back zero h = refl
      back (suc zero) h = refl
      back (suc (suc u)) h = absurd (omega arith)

  -- two edges, for which all of the words must be free
  two : (to to' from origin condition condition' : ℕ) → u + 2 ≤ 2 → count + 2 ≤ length es
      → let ws = put_record 4 (put_record 4 zeros u (edge to from origin condition)) (u + 1) (edge to' from origin condition') in
      edge_words (appended es count 2 (edge_at ws u) (edge_at ws (u + 1))) ≡ put_record 4 (put_record 4 (edge_words es) count (edge to from origin condition)) (count + 1) (edge to' from origin condition')
  two to to' from origin condition condition' small fits =
      let none : u ≡ 0 = omega arith in
      let first : InEdge = edge_of to from origin condition in
      let more : count + 1 < length (set es count first) = rw (length-set es count first) (omega arith) in
      rw (none, ← put_words es count first (omega arith)) (put_words (set es count first) (count + 1) (edge_of to' from origin condition') more)

  pub same_edges : (c : Class) (address imm : ℕ) (o : Outcome ℕ) → u + edge_count c ≤ 2 → count + edge_count c ≤ length es → let ws = edges_after zeros u c address imm o in
      edge_words (appended es count (edge_count c) (edge_at ws u) (edge_at ws (u + 1))) ≡ edges_after (edge_words es) count c address imm o
  same_edges Plain address imm o small fits = one _ _ _ _ small fits
  same_edges Access address imm o small fits = one _ _ _ _ small fits
  same_edges Addi address imm o small fits = one _ _ _ _ small fits
  same_edges Branch address imm o small fits = two _ _ _ _ _ _ small fits
  same_edges Jal address imm o small fits = one _ _ _ _ small fits
  same_edges Jalr address imm o small fits = refl
  same_edges Ecall address imm o small fits = one _ _ _ _ small fits

at_most : (c : Class) → edge_count c ≤ 2
at_most Plain = omega arith
at_most Access = omega arith
at_most Addi = omega arith
at_most Branch = omega arith
at_most Jal = omega arith
at_most Jalr = omega arith
at_most Ecall = omega arith

-- ---- the same answer

-- what the core gave, its edges out of their words and appended after count others, of which u words' records were counted as used
abbrev pub rejoined : List InEdge → ℕ → ℕ → Answer → Answer
rejoined es count u a =
    let added = a.lowered.state.counts.edges - u in
    record {
      lowered = record { refusal = a.lowered.refusal; state = with_edges a.lowered.state (count + added) };
      lent = lent a.lent.list a.lent.names (edge_words (appended es count added (edge_at a.lent.edges u) (edge_at a.lent.edges (u + 1)))) a.lent.dispatches a.lent.bads;
    }

-- the core gave a: it counts no edge away, its edges fit after the others, and with them appended the rest is right
pub record Whole (es : List InEdge) (st : State) (u : ℕ) (a whole : Answer) : Type 0 where
  pub more : u ≤ a.lowered.state.counts.edges
  pub fits : Fits st.counts.edges (a.lowered.state.counts.edges - u) u (length es)
  pub right : rejoined es st.counts.edges u a ≡ whole

-- refused, no edge is appended
pub same_refused : (es : List InEdge) (st : State) (u n : ℕ) (l : Lent) {whole : Answer} → Whole es st u (answer (record { refusal = n; state = with_edges st u }) l) whole
    → answer (record { refusal = n; state = st }) (lent l.list l.names (edge_words es) l.dispatches l.bads) ≡ whole
same_refused es st u n l w =
    let none : u - u ≡ 0 = omega arith in
    rw (none, add-zero st.counts.edges) at w.right

module _ (l n d b : List ℕ) (es : List InEdge) (st : State) (i : Instruction) (address : ℕ) (flag : NodeRef) (u : ℕ) (test : (m : ℕ) → m ≤ 2 → ltb 2 (u + m) ≡ ltb (length es) (st.counts.edges + m)) where
  abbrev own : Lent
  own = lent l n zeros d b

  abbrev theirs : Lent
  theirs = lent l n (edge_words es) d b

  abbrev c : Class
  c = class (kind_at i.kind)

  abbrev needed : Room
  needed = needs i address

  edges_are : needed.edges ≡ edge_count c
  unfolding needs_of
  edges_are = refl

  number : ℕ
  number = refusal_of l (room_in own) (with_edges st u) i address flag.0

  same_refusal : refusal_of l (room_in theirs) st i address flag.0 ≡ number
  unfolding number refusal_given room_out room_of
  same_refusal =
      let nine : ltb 2 u ≡ ltb (length es) st.counts.edges = rw (add-zero u, add-zero st.counts.edges) at (test 0 (omega arith)) in
      let eight : ltb 2 (u + needed.edges) ≡ ltb (length es) (st.counts.edges + needed.edges) = test needed.edges (rw edges_are (at_most c)) in
      rw (records es, ← nine, ← eight)

  module _ (run : Run Store (P.Modeled ℕ)) where
    refused_whole : (m : ℕ) → Whole es st u (refused m own (with_edges st u)) (refused m theirs st)
    refused_whole m =
        let none : u - u ≡ 0 = omega arith in
        record {
          more = omega arith;
          fits = record { there = λ some. absurd (omega (arith, none)); own = λ some. absurd (omega (arith, none)) };
          right = rw (none, add-zero st.counts.edges);
        }

    settled_whole : number ≡ 0 → Whole es st u (settled own (with_edges st u) i address run) (settled theirs st i address run)
    unfolding settled counts_after number room_of
    settled_whole accepted =
        let small : u + needed.edges ≤ 2 = (A.roomy _ l (room_in own) (with_edges st u).tally (with_edges st u).counts i address flag.0 accepted).edges in
        let small' : u + edge_count c ≤ 2 = rw edges_are at small in
        let fits : st.counts.edges + edge_count c ≤ length es = ltb-false _ _ (sym (test (edge_count c) (at_most c)) ∙ le-ltb 2 (u + edge_count c) small') in
        let added : (u + needed.edges) - u ≡ edge_count c = omega (arith, edges_are) in
        record {
          more = omega arith;
          fits = record { there = λ some. rw added fits; own = λ some. rw added small' };
          right = rw (added, edges_are, same_edges es st.counts.edges u c address i.imm run.value.outcome small' fits);
        }

    either : (t : Bool) → eqb number 0 ≡ t
        → Whole es st u (cond t (settled own (with_edges st u) i address run) (refused number own (with_edges st u))) (cond t (settled theirs st i address run) (refused number theirs st))
    either true e = settled_whole (eqb-true number 0 e)
    either false e = refused_whole number

  whole : Whole es st u (lowering own (with_edges st u) i address flag) (lowering theirs st i address flag)
  unfolding lowering_given program_of number
  whole = rw same_refusal (either (run_for address l st.tally (program_of st i address flag)) (eqb number 0) refl)

-- what the core gave over its own words, under a state s that counts u of their two records as used, is what the call gives over the records
pub same_answer : (held : L.Lent InEdge) (st : State) (call : LowerCall) (u : ℕ) (s : State) (a : Answer) → u ≡ used_of st.counts.edges (length held.edges.now) → s ≡ with_edges st u
    → a ≡ lowering (lent held.list.now held.names.now zeros held.dispatches.now held.bads.now) s call.instruction call.address call.flag
    → Whole held.edges.now st u a (lowering (lent held.list.now held.names.now (edge_words held.edges.now) held.dispatches.now held.bads.now) st call.instruction call.address call.flag)
same_answer held st call u s a used counted gave =
    rw (gave, counted)
    (whole held.list.now held.names.now held.dispatches.now held.bads.now held.edges.now st call.instruction call.address call.flag u (λ m h. rw used (same_test st.counts.edges (length held.edges.now) m h)))

-- the count after the call fits
pub sum_fits : (count added used room : ℕ) → Fits count added used room → count < 2 ^ 64 → room < 2 ^ 64 → count + added < 2 ^ 64
sum_fits count zero used room h few most = omega arith
sum_fits count (suc n) used room h few most = omega (arith, h.there (omega arith))
