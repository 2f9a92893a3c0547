-- The tests of a lowering from each one on, in the definition's order. Assumes nothing.
use Prim.Native.Nat.{ℕ}
use mathlib.Core.Bool.{Bool, not}
use mathlib.Core.List.{List, [], ◌∷◌}
use Rattle.builder.specs.declared.Tally.{Tally}
use Rattle.riscv.specs.declared.Instruction.{Instruction}
use Rattle.riscv.proofs.First.{Tests}
use Rattle.state.specs.declared.Counts.{Counts}
use Rattle.state.specs.declared.room.Room.{Room}
use Rattle.lowering_refusals.specs.Refusal.{needs, room_out, flag_out, tests_of_record}

module _ (ws : List ℕ) (room : Room) (t : Tally) (c : Counts) (i : Instruction) (address flag : ℕ) where
  abbrev pub from8 : Tests
  from8 = (room_out room t c (needs i address), 8) ∷ []

  abbrev pub from7 : Tests
  from7 = (flag_out ws t.lines i flag, 7) ∷ from8

  abbrev pub from_record : Tests
  from_record = tests_of_record ws room t c i address flag

  abbrev pub from13 : Bool → Tests
  from13 fits = (not fits, 13) ∷ from_record
