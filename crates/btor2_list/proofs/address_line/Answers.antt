-- The two words that say it. Assumes nothing.
use native.Mathlib.Nat.{add-zero}
use Rattle.btor2_list.proofs.Marked.{mark_set}
use Rattle.btor2_list.proofs.address_line.Goals as goal

pub returns : goal.returns
returns c = rw (add-zero, mark_set)
