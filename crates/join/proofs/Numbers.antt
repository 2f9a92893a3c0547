-- The number of a join's refusal by its tests, and what a join that is not refused has passed. Assumes nothing.
use Prim.Native.Nat.{ℕ, ◌*◌, ◌/◌, ◌≤◌}
use mathlib.Core.Path.{◌≡◌, refl}
use mathlib.Core.Bool.{Bool, true, false, not, ◌||◌}
use mathlib.Core.List.{[], ◌∷◌}
use native.Mathlib.Omega.{arith}
use borrow.Author.Tests.{ltb-false}
use lib.Dec.{ltb}
use lib.ListN.{length}
use Rattle.bitvec.proofs.Truth.{neither}
use Rattle.btor2_list.specs.Record.{capacity}
use Rattle.edges.specs.Edges.{edge_stride, dispatch_stride}
use Rattle.list_check.specs.Lines.{any}
use Rattle.riscv.proofs.First.{Tests, hit, miss, passes}
use Rattle.state.specs.RolesFit.{roles_fit}
use Rattle.btor2_list.specs.Limits.{most_lines, most_nid, tally_out}
use Rattle.state.proofs.Within.{lines_within}
use Rattle.join.specs.declared.JoinHeld.{JoinHeld}
use Rattle.join.specs.Given.{flag_stride}
use Rattle.join.specs.Refusal.{JoinLent, JoinInput, edges_of, dispatches_of, join_counts_out, flags_out, edge_out, dispatch_out, join_room_out, join_refusal}

module _ (l : JoinLent) (h : JoinHeld) (g : JoinInput) where
  abbrev lines : ℕ
  lines = h.state.tally.lines

  abbrev pub roles_out : Bool
  roles_out = not (roles_fit l.list lines 0 h.state.roles)

  abbrev pub records_out : Bool
  records_out = any (edge_out l.list lines) (edges_of g) || any (dispatch_out l.list lines) (dispatches_of g)

  abbrev from8 : Tests
  from8 = (join_room_out l h g, 8) ∷ []

  abbrev from16 : Tests
  from16 = (records_out, 16) ∷ from8

  abbrev from15 : Tests
  from15 = (flags_out l.list lines g, 15) ∷ from16

  abbrev from13 : Tests
  from13 = (roles_out, 13) ∷ from15

  -- ---- the number, where the tests before it are passed

  pub is_9 : join_counts_out l h g ≡ true → 9 ≡ join_refusal l h g
  unfolding join_refusal
  is_9 e = hit 9 from13 e

  module _ (e9 : join_counts_out l h g ≡ false) where
    pub is_13 : roles_out ≡ true → 13 ≡ join_refusal l h g
    unfolding join_refusal
    is_13 e = miss 9 from13 e9 (hit 13 from15 e)

    module _ (e13 : roles_out ≡ false) where
      pub is_15 : flags_out l.list lines g ≡ true → 15 ≡ join_refusal l h g
      unfolding join_refusal
      is_15 e = miss 9 from13 e9 (miss 13 from15 e13 (hit 15 from16 e))

      module _ (e15 : flags_out l.list lines g ≡ false) where
        pub is_16 : records_out ≡ true → 16 ≡ join_refusal l h g
        unfolding join_refusal
        is_16 e = miss 9 from13 e9 (miss 13 from15 e13 (miss 15 from16 e15 (hit 16 from8 e)))

        module _ (e16 : records_out ≡ false) where
          pub is_8 : join_room_out l h g ≡ true → 8 ≡ join_refusal l h g
          unfolding join_refusal
          is_8 e = miss 9 from13 e9 (miss 13 from15 e13 (miss 15 from16 e15 (miss 16 from8 e16 (hit 8 [] e))))

          pub is_0 : join_room_out l h g ≡ false → 0 ≡ join_refusal l h g
          unfolding join_refusal
          is_0 e = miss 9 from13 e9 (miss 13 from15 e13 (miss 15 from16 e15 (miss 16 from8 e16 (miss 8 [] e refl))))

  -- ---- what is passed

  pub record JoinWithin : Type 0 where
    pub most : lines ≤ most_lines
    pub nids : h.state.tally.nid ≤ most_nid
    pub held : lines ≤ capacity (length l.list)
    pub names : h.state.counts.names ≤ length l.names
    pub edges : g.asked.edges * edge_stride ≤ length g.edges
    pub dispatches : g.asked.dispatches * dispatch_stride ≤ length g.dispatches
    pub flags : g.asked.flags * flag_stride ≤ length g.flags
    pub sequentials : h.sequentials ≤ length l.sequentials

  pub within : join_counts_out l h g ≡ false → JoinWithin
  within e =
      let p3 = neither (tally_out most_nid (capacity (length l.list)) lines h.state.tally.nid) _ e in
      let t = lines_within most_nid (capacity (length l.list)) lines h.state.tally.nid p3.0 in
      let p4 = neither (ltb (length l.names) h.state.counts.names) _ p3.1 in
      let p5 = neither (ltb (length g.edges / edge_stride) g.asked.edges) _ p4.1 in
      let p6 = neither (ltb (length g.dispatches / dispatch_stride) g.asked.dispatches) _ p5.1 in
      let p7 = neither (ltb (length g.flags / flag_stride) g.asked.flags) _ p6.1 in
      record {
        most = t.most_lines_lem;
        nids = t.nids;
        held = t.held;
        names = ltb-false _ _ p4.0;
        edges = omega (arith, ltb-false (length g.edges / edge_stride) g.asked.edges p5.0);
        dispatches = omega (arith, ltb-false (length g.dispatches / dispatch_stride) g.asked.dispatches p6.0);
        flags = omega (arith, ltb-false (length g.flags / flag_stride) g.asked.flags p7.0);
        sequentials = ltb-false _ _ p7.1;
      }

  pub record Passed : Type 0 where
    pub counts : JoinWithin
    pub roles : roles_out ≡ false
    pub flags : flags_out l.list lines g ≡ false
    pub edges : any (edge_out l.list lines) (edges_of g) ≡ false
    pub dispatches : any (dispatch_out l.list lines) (dispatches_of g) ≡ false
    pub room : join_room_out l h g ≡ false

  pub passed : join_refusal l h g ≡ 0 → Passed
  unfolding join_refusal
  passed e =
      let p9 = passes (join_counts_out l h g) 9 from13 (λ z. omega arith) e in
      let p13 = passes roles_out 13 from15 (λ z. omega arith) p9.1 in
      let p15 = passes (flags_out l.list lines g) 15 from16 (λ z. omega arith) p13.1 in
      let p16 = passes records_out 16 from8 (λ z. omega arith) p15.1 in
      let p8 = passes (join_room_out l h g) 8 [] (λ z. omega arith) p16.1 in
      let b = neither (any (edge_out l.list lines) (edges_of g)) _ p16.0 in
      record { counts = within p9.0; roles = p13.0; flags = p15.0; edges = b.0; dispatches = b.1; room = p8.0 }
