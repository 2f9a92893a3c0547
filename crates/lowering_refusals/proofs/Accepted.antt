-- What was not refused passed each test: there is room for it. Assumes nothing.
use Prim.Native.Nat.{ℕ, ◌+◌, ◌≤◌}
use mathlib.Core.Path.{◌≡◌, refl, sym, ◌∙◌}
use mathlib.Core.Bool.{Bool, true, false, cond, not}
use mathlib.Core.List.{List, [], ◌∷◌}
use native.Mathlib.Omega.{arith}
use borrow.Author.Tests.{ltb-false, eqb-true}
use lib.Dec.{eqb, ltb}
use Rattle.bitvec.proofs.Truth.{neither}
use Rattle.builder.specs.declared.Tally.{Tally}
use Rattle.riscv.specs.declared.Instruction.{Instruction}
use Rattle.riscv.specs.Refusal.{refusal, first}
use Rattle.riscv.proofs.First.{Tests, passes}
use Rattle.state.specs.declared.Counts.{Counts}
use Rattle.state.specs.declared.room.Room.{Room}
use Rattle.lowering_refusals.specs.Refusal.{needs, room_out, flag_out, refusal_given}
use Rattle.state.specs.Room.{counts_out}
use Rattle.btor2_list.specs.Limits.{most_lines, most_nid}
use Rattle.lowering_refusals.proofs.Tests.{from8, from7, from_record, from13}

-- the record's own number is none
pub record_passes : (n : ℕ) (ts : Tests) → first ((not (eqb n 0), n) ∷ ts) ≡ 0 → (n ≡ 0) × (first ts ≡ 0)
record_passes n ts e = go (eqb n 0) refl e
  where
    go : (b : Bool) → eqb n 0 ≡ b → cond (not b) n (first ts) ≡ 0 → (n ≡ 0) × (first ts ≡ 0)
    go true f e = (eqb-true n 0 f, e)
    go false f e = absurd (let z : ◌≡◌ {A = Bool} (eqb n 0) (eqb 0 0) = (λ i. eqb (e i) 0) in let y : true ≡ false = sym z ∙ f in let x : ◌≡◌ {A = ℕ} 0 1 = cc in omega arith)

module _ (fits : Bool) (ws : List ℕ) (room : Room) (t : Tally) (c : Counts) (i : Instruction) (address flag : ℕ) (e : refusal_given fits ws room t c i address flag ≡ 0) where
  abbrev needed : Room
  needed = needs i address

  pub counts_in : counts_out most_nid room t c ≡ false
  unfolding refusal_given
  counts_in = (passes (counts_out most_nid room t c) 9 (from13 ws room t c i address flag fits) (λ z. omega arith) e).0

  room_in_lem : room_out room t c needed ≡ false
  unfolding refusal_given
  room_in_lem =
      let p13 = (passes (counts_out most_nid room t c) 9 (from13 ws room t c i address flag fits) (λ z. omega arith) e).1 in
      let pr = (passes (not fits) 13 (from_record ws room t c i address flag) (λ z. omega arith) p13).1 in
      let p7 = (record_passes (refusal i) (from7 ws room t c i address flag) pr).1 in
      let p8 = (passes (flag_out ws t.lines i flag) 7 (from8 ws room t c i address flag) (λ z. omega arith) p7).1 in
      (passes (room_out room t c needed) 8 [] (λ z. omega arith) p8).0

  -- every count that is to come is within its room
  pub record Roomy : Type 0 where
    pub most : t.lines + needed.lines ≤ most_lines
    pub lines : t.lines + needed.lines ≤ room.lines
    pub names : c.names + needed.names ≤ room.names
    pub edges : c.edges + needed.edges ≤ room.edges
    pub dispatches : c.dispatches + needed.dispatches ≤ room.dispatches
    pub bads : c.bads + needed.bads ≤ room.bads

  pub roomy : Roomy
  unfolding room_out
  roomy =
      let n = needed in
      let p1 = neither (ltb most_lines (t.lines + n.lines)) _ room_in_lem in
      let p2 = neither (ltb room.lines (t.lines + n.lines)) _ p1.1 in
      let p3 = neither (ltb room.names (c.names + n.names)) _ p2.1 in
      let p4 = neither (ltb room.edges (c.edges + n.edges)) _ p3.1 in
      let p5 = neither (ltb room.dispatches (c.dispatches + n.dispatches)) _ p4.1 in
      record {
        most = ltb-false _ _ p1.0;
        lines = ltb-false _ _ p2.0;
        names = ltb-false _ _ p3.0;
        edges = ltb-false _ _ p4.0;
        dispatches = ltb-false _ _ p5.0;
        bads = ltb-false _ _ p5.1;
      }
