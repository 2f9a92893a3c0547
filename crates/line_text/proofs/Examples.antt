-- A run whose text is known. Assumes nothing.
use Rattle.std.proofs.Common.{◌≡◌, [], ◌∷◌, refl, Some, None}
use Rattle.btor2.specs.declared.NodeType.TheVariants.{Bit}
use Rattle.btor2.specs.Op.{const, not, map_op}
use Rattle.btor2_list.specs.Node.{node}
use Rattle.text.specs.Numeral.{numeral}
use Rattle.text.specs.Ascii.{ascii}
use Rattle.row_text.specs.Row.{row_text}
use Rattle.line_text.specs.Record.{line_text}
use Rattle.line_text.specs.Line.{nodes_text, run_text}

-- places and identifiers are kept apart: the operand at place 0 is printed as 20; an address is not printed
run_of_one : run_text [] [] (node None 20 (const Bit 1) ∷ node (Some 4) 22 (not Bit 0) ∷ []) 1 1 ≡ ascii "22 not 1 20\n"
unfolding nodes_text line_text map_op row_text numeral
run_of_one = refl
