-- One more line, where the lent words hold it (unicorn's `add_node`).
use Rattle.std.specs.Prelude.{ℕ, ◌+◌, ◌%◌, ◌^◌, cond, List, Option, Some, None}
use Rattle.btor2.specs.Op.{Op, identifiers}
use Rattle.btor2_list.specs.declared.Line.{Line}
use Rattle.btor2_list.specs.Record.{holds, put_at}
use Rattle.btor2_list.specs.Node.{line_of, op_of}
use Rattle.builder.specs.Prog.{Prog, Run, ran, exec}
use Rattle.builder.specs.declared.Tally.{Tally}

-- the lent words, and the tally
pub record Store : Type 0 where
  pub words : List ℕ
  pub tally : Tally

abbrev pub at : List ℕ → Tally → Store
at ws t = record { words = ws; tally = t }

-- the tally after one more line
abbrev pub counted : Tally → Line → Tally
counted t l = record { lines = t.lines + 1; nid = (t.nid + identifiers (op_of l)) % 2 ^ 64 }

unfoldable pub append_line : Store → Line → Run Store ℕ
append_line st l =
    cond (holds st.words st.tally.lines)
    (ran (at (put_at st.words st.tally.lines l) (counted st.tally l)) st.tally.lines)
    (ran st st.tally.lines)

-- a line under the next identifier, with the address of the instruction that it is lowered for, or without one
abbrev pub append_for : Option ℕ → Store → Op ℕ → Run Store ℕ
append_for address st o = append_line st (line_of address st.tally.nid o)

abbrev pub append : Store → Op ℕ → Run Store ℕ
append = append_for None

-- the lines of a program, from these words and this tally, for the instruction at an address: each of them has it (document 02, R-3: "Lowering writes
-- the current address on each line it appends and on no other")
abbrev pub run_for : {X : Type 0} → ℕ → List ℕ → Tally → Prog ℕ X → Run Store X
run_for address ws t p = exec (append_for (Some address)) (at ws t) p
