-- Bounds that private functions ask for: the counts after a call fit.
use Rattle.std.specs.Prelude.{ℕ, ◌+◌, ◌≤◌, ◌<◌, ◌^◌, ◌≡◌}
use Rattle.builder.specs.declared.Tally.{Tally}
use Rattle.riscv.specs.declared.Instruction.{Instruction}
use Rattle.state.specs.declared.Counts.{Counts}
use Rattle.state.specs.declared.room.Room.{Room}
use Rattle.lowering_refusals.specs.Refusal.{needs}
use Rattle.btor2_list.specs.Limits.{most_lines}

pub record Added (c : Counts) (n : Room) : Type 0 where
  pub names : c.names + n.names < 2 ^ 64
  pub edges : c.edges + n.edges < 2 ^ 64
  pub dispatches : c.dispatches + n.dispatches < 2 ^ 64
  pub bads : c.bads + n.bads < 2 ^ 64

-- a call that was accepted has room for what it needs
pub record Ready (t : Tally) (c : Counts) (needed : Room) (i : Instruction) (address : ℕ) : Type 0 where
  pub lines : t.lines ≤ most_lines
  pub added : Added c needed
  pub is : needed ≡ needs i address
