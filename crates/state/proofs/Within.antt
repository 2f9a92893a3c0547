-- What passed refusal 9 is within its bounds. Assumes nothing.
use Prim.Native.Nat.{ℕ, ◌≤◌}
use mathlib.Core.Path.{◌≡◌}
use mathlib.Core.Bool.{false}
use borrow.Author.Tests.{ltb-false}
use lib.Dec.{ltb}
use Rattle.bitvec.proofs.Truth.{neither}
use Rattle.builder.specs.declared.Tally.{Tally}
use Rattle.state.specs.declared.Counts.{Counts}
use Rattle.state.specs.declared.room.Room.{Room}
use Rattle.state.specs.Room.{counts_out}
use Rattle.btor2_list.specs.Limits.{most_lines, lines_out, tally_out}

-- 9 of the lines
pub record LinesWithin (most room n next : ℕ) : Type 0 where
  pub most_lines_lem : n ≤ most_lines
  pub held : n ≤ room
  pub nids : next ≤ most

pub lines_within : (most room n next : ℕ) → tally_out most room n next ≡ false → LinesWithin most room n next
lines_within most room n next e =
    let p = neither (lines_out room n) _ e in
    let q = neither (ltb most_lines n) _ p.0 in
    record { most_lines_lem = ltb-false _ _ q.0; held = ltb-false _ _ q.1; nids = ltb-false _ _ p.1 }

pub record Within (nid : ℕ) (room : Room) (t : Tally) (c : Counts) : Type 0 where
  pub most : t.lines ≤ most_lines
  pub nids : t.nid ≤ nid
  pub lines : t.lines ≤ room.lines
  pub names : c.names ≤ room.names
  pub edges : c.edges ≤ room.edges
  pub dispatches : c.dispatches ≤ room.dispatches
  pub bads : c.bads ≤ room.bads

pub within : (nid : ℕ) (room : Room) (t : Tally) (c : Counts) → counts_out nid room t c ≡ false → Within nid room t c
within nid room t c e =
    let p3 = neither (tally_out nid room.lines t.lines t.nid) _ e in
    let l = lines_within nid room.lines t.lines t.nid p3.0 in
    let p4 = neither (ltb room.names c.names) _ p3.1 in
    let p5 = neither (ltb room.edges c.edges) _ p4.1 in
    let p6 = neither (ltb room.dispatches c.dispatches) _ p5.1 in
    record {
      most = l.most_lines_lem;
      nids = l.nids;
      lines = l.held;
      names = ltb-false _ _ p4.0;
      edges = ltb-false _ _ p5.0;
      dispatches = ltb-false _ _ p6.0;
      bads = ltb-false _ _ p6.1;
    }
