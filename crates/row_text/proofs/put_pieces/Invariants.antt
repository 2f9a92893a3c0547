-- The numbers before this one are put. Assumes nothing.
use mathlib.Core.List.{◌∷◌, ◌++◌}
use lib.ListN.{take}
use Rattle.text.specs.Numeral.{decimal_text}
use Rattle.text.specs.Put.{Put}
use Rattle.row_text.specs.Row.{numbers_text}
use Rattle.row_text.proofs.put_pieces.Given as goal

abbrev pub invariant-loop-x : goal.invariant-loop-x
invariant-loop-x l = Put l.fn.out l.at (decimal_text l.nid ++ (32 ∷ l.word) ++ (32 ∷ decimal_text l.sort) ++ numbers_text (take l.x-index l.numbers)) l.out l.p
