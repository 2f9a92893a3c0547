-- The parts of a join's entry, for private functions.
use Rattle.std.specs.Prelude.{ℕ, ◌-◌, ◌≤◌, ◌≡◌, min, ◌+◌, ◌<◌, ◌^◌, false, List, eqb, length}
use Rattle.btor2.specs.declared.NodeRef.{NodeRef}
use Rattle.btor2_list.specs.Record.{capacity}
use Rattle.btor2_list.specs.Limits.{most_lines}
use Rattle.state.specs.Words.{state_in}
use Rattle.join.specs.declared.JoinHeld.{JoinHeld}
use Rattle.join.specs.Program.{names_of, nexts_of}
use Rattle.join.specs.Refusal.{JoinLent, JoinInput, join_counts_out, edges_of, zero_in}
use Rattle.join_calls.specs.declared.room.Left.{Left}
use Rattle.join_calls.specs.Records.{Exact}

-- what a state's words and the count of sequentials say is held
abbrev pub join_held_in : List ℕ → ℕ → JoinHeld
join_held_in ws used = record { state = state_in ws; sequentials = used }

-- what is in use is within what is lent
pub record HeldWithin (l : JoinLent) (h : JoinHeld) : Type 0 where
  pub most : h.state.tally.lines ≤ most_lines
  pub lines : h.state.tally.lines ≤ capacity (length l.list)
  pub names : h.state.counts.names ≤ length l.names
  pub sequentials : h.sequentials ≤ length l.sequentials

-- what is left of it
abbrev pub left_of : JoinLent → JoinHeld → NodeRef → Left
left_of l h flow = record {
  lines = min (capacity (length l.list)) most_lines - h.state.tally.lines;
  names = length l.names - h.state.counts.names;
  sequentials = length l.sequentials - h.sequentials;
  zero = eqb flow.0 (zero_in h.state);
}

-- what the refusals after 9 rest on: the counts are within what is lent and given, and no words come after the records
pub record ReadyToCheck (l : JoinLent) (h : JoinHeld) (g : JoinInput) : Type 0 where
  pub counts : join_counts_out l h g ≡ false
  pub exact : Exact g

-- what an accepted call rests on: the counts after its edges fit
pub record ReadyToJoin (h : JoinHeld) (g : JoinInput) : Type 0 where
  pub exact : Exact g
  pub names : h.state.counts.names + length (names_of (edges_of g)) < 2 ^ 64
  pub sequentials : h.sequentials + nexts_of (edges_of g) < 2 ^ 64
