-- The bench on a small list, computed: values, visits and refusals. Assumes nothing.
use Rattle.std.specs.Prelude.{None}
use Prim.Native.Nat.{ℕ, ◌^◌, ◌-◌}
use mathlib.Core.Path.{◌≡◌, refl}
use mathlib.Core.List.{List, [], ◌∷◌, ◌++◌}
use lib.ListN.{length}
use Rattle.bitvec.specs.Smtlib.{bit, bvnot, bvand, bvadd, bvsub, bvneg, bvcomp, zero_extend}
use Rattle.bitvec.specs.Smtlib as Smt
use Rattle.btor2.specs.declared.NodeType.TheVariants.{Bit, Word, Memory, Input1Byte}
use Rattle.btor2.specs.Op.{Op, const, read, write, bin, add, sub, uext, ite, and, not, state, state_init, next, input, bad, map_op, carried}
use Rattle.btor2.specs.SortRule.{rule, is_state_op, judge}
use Rattle.btor2.specs.Value.{binary}
use Rattle.btor2.specs.Walk.{walk}
use Rattle.btor2_list.specs.Record.{words, record_at}
use Rattle.btor2_list.specs.Node.{line_of, op_of, no_name}
use Rattle.btor2_list.specs.Records.{records_in, first_given}
use Rattle.btor2_list.specs.View.{view}
use Rattle.list_check.specs.Lines.{some}
use Rattle.list_check.specs.Broken.{op_broken}
use Rattle.evaluation.specs.Answer.{Evaluated, Refused, Value}
use Rattle.evaluation.specs.Evaluation.{after_value, one, both, look_of, looks_of, looks, unfit, evaluated_within}

lines : List (Op ℕ)
lines =
    state Word no_name  -- 0
    ∷ input Input1Byte no_name  -- 1
    ∷ state Memory no_name  -- 2
    ∷ state Bit no_name  -- 3
    ∷ uext Input1Byte 1  -- 4
    ∷ const Word 5  -- 5
    ∷ state_init Word 5 no_name  -- 6
    ∷ write 2 5 0  -- 7: the word of 0 at address 5
    ∷ read 7 4  -- 8
    ∷ bin sub 0 5  -- 9
    ∷ ite Word 3 9 8  -- 10
    ∷ and Word 3 5  -- 11, which breaks the sort rule
    ∷ bin add 11 5  -- 12
    ∷ const Word 9  -- 13
    ∷ read 7 13  -- 14
    ∷ const Bit 0  -- 15
    ∷ ite Word 15 11 5  -- 16
    ∷ not Word 5  -- 17
    ∷ next Word 0 5  -- 18
    ∷ bad 3 no_name  -- 19
    ∷ []

stored : List (Op ℕ) → List ℕ
stored [] = []
stored (o ∷ os) = words (line_of None 0 o) ++ stored os

-- a value each of 0, 1 and 3, those of 1 and 3 too wide, and the word of 2 at address 9; then others that do not count
given_values : List ℕ
given_values = 0 ∷ 100 ∷ 1 ∷ 261 ∷ 3 ∷ 3 ∷ 0 ∷ 7 ∷ 5 ∷ 8 ∷ 6 ∷ []

given_memory : List ℕ
given_memory = 2 ∷ 8 ∷ 76 ∷ 1 ∷ 9 ∷ 75 ∷ 2 ∷ 9 ∷ 77 ∷ 2 ∷ 9 ∷ 78 ∷ 2 ∷ 9 ∷ []

-- the line at place p, within a limit, in the list with some lines more
asked_with : List (Op ℕ) → ℕ → ℕ → Evaluated
asked_with more limit p = let xs = lines ++ more in evaluated_within limit (stored xs) (length xs) given_values given_memory p

asked : ℕ → ℕ → Evaluated
asked = asked_with []

values_come :
    asked 1 5 ∷ asked 9 4 ∷ asked 6 8 ∷ asked 9 9 ∷ asked 5 10 ∷ asked 5 14 ∷ asked 3 16 ∷ asked 9 17 ∷ asked 9 6 ∷ asked 9 3 ∷ []
    ≡ Value 5 1 ∷ Value 5 2 ∷ Value 100 6 ∷ Value 95 3 ∷ Value 95 5 ∷ Value 77 5 ∷ Value 5 3 ∷ Value (2 ^ 64 - 6) 2 ∷ Value 0 1 ∷ Value 1 1 ∷ []
unfolding lines stored given_values given_memory asked_with asked record_at op_of view walk map_op carried is_state_op rule judge some op_broken records_in first_given after_value one both look_of looks_of looks unfit evaluated_within binary Smt.ite bvnot bvand bvadd bvsub bvneg bvcomp bit zero_extend
values_come = refl

-- 18 and 17 as the visits come to them, 19 before any
refusals_come :
    asked 5 8 ∷ asked 0 11 ∷ asked 1 11 ∷ asked 2 12 ∷ asked 9 1 ∷ asked 9 2 ∷ asked 9 18 ∷ asked 9 19 ∷ asked 9 20 ∷ asked_with (bin add 21 0 ∷ []) 9 5 ∷ []
    ≡ Refused 18 ∷ Refused 18 ∷ Refused 17 ∷ Refused 17 ∷ Refused 19 ∷ Refused 19 ∷ Refused 19 ∷ Refused 19 ∷ Refused 19 ∷ Refused 19 ∷ []
unfolding lines stored given_values given_memory asked_with asked record_at op_of view walk map_op carried is_state_op rule judge some op_broken records_in first_given after_value one both look_of looks_of looks unfit evaluated_within binary Smt.ite bvnot bvand bvadd bvsub bvneg bvcomp bit zero_extend
refusals_come = refl
