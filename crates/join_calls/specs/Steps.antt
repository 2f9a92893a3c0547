-- What a part of a join leaves, for private functions.
use Rattle.std.specs.Prelude.{ℕ, ◌+◌, ◌<◌, ◌^◌, ◌≡◌, List, length}
use Rattle.std.proofs.lemmas.List.Edits.{sets}
use Rattle.builder.specs.Prog.{Prog}
use Rattle.builder.specs.Append.{at}
use Rattle.builder.specs.declared.Builder.{Builder}
use Rattle.join.specs.ControlFlow.{Kernel}
use Rattle.join.specs.FlagName.{flag_name}
use Rattle.join.specs.Listed.{Listed, listed, Lists}
use Rattle.join.specs.Program.{Edge, edge_name, names_of, nexts_by, nexts_of}
use Rattle.join.specs.declared.Asked.{Asked}
use Rattle.join_calls.specs.declared.areas.Areas.{Areas}

-- the lent words and sequentials, with the counts of them
abbrev pub joining_store : Builder → Areas → Listed
joining_store b a = listed (at b.list.now b.tally) a.sequentials.now a.listed

-- the kernel nodes of what is asked
abbrev pub kernel_of : Asked → Kernel ℕ
kernel_of a = record { mode = a.mode.0; none = a.none.0 }

-- the areas are the same storage
pub record SameAreas (a a' : Areas) : Type 0 where
  pub names : a'.names.ghost_name ≡ a.names.ghost_name
  pub sequentials : a'.sequentials.ghost_name ≡ a.sequentials.ghost_name

-- by its program p, with its names' text and so many Nexts; what is lent stays the same storage
pub record Joins (b : Builder) (a : Areas) (p : Prog ℕ ℕ) (text : List ℕ) (nexts : ℕ) (b' : Builder) (a' : Areas) (x : ℕ) : Type 0 where
  pub lists : Lists (joining_store b a) p (joining_store b' a') x
  pub texts : a'.names.now ≡ sets a.names.now a.named text
  pub named : a'.named ≡ a.named + length text
  pub counted : a'.listed ≡ a.listed + nexts
  pub same_list : b'.list.ghost_name ≡ b.list.ghost_name
  pub same_areas : SameAreas a a'

-- the counts after these edges fit
pub record RoomForEdges (a : Areas) (xs : List (Edge ℕ)) : Type 0 where
  pub names : a.named + length (names_of xs) < 2 ^ 64
  pub sequentials : a.listed + nexts_of xs < 2 ^ 64

pub record RoomForEdge (a : Areas) (origin from : ℕ) : Type 0 where
  pub names : a.named + length (edge_name origin from) < 2 ^ 64
  pub sequentials : a.listed + nexts_by origin < 2 ^ 64

-- one name, and one Next
pub record RoomForName (a : Areas) (from : ℕ) : Type 0 where
  pub fits : a.named + length (flag_name from) < 2 ^ 64

pub record RoomForNext (a : Areas) : Type 0 where
  pub fits : a.listed + 1 < 2 ^ 64
