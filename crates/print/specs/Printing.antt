-- Printing a run of lines (document 01, "Who can be refused, and with what"): "printing a run of lines 9, 11 (both over the whole list), 14.
-- First match wins."
use Rattle.std.specs.Prelude.{ℕ, ◌+◌, Bool, cond, not, ◌||◌, List, ◌++◌, eqb, ltb, length, drop, Result, Ok, Err}
use Rattle.btor2_list.specs.Limits.{most_nid, lines_out}
use Rattle.btor2_list.specs.Record.{capacity}
use Rattle.list_check.specs.Lines.{some}
use Rattle.list_check.specs.Formed.{unformed_words}
use Rattle.line_text.specs.Line.{nodes, nid_at, run_text}
use Rattle.refusals.specs.declared.Refusal.{Refusal}
use Rattle.refusals.specs.Refusal.{refusal_number}

-- the answer: "A refusal returns its number alone"; a text that is printed, its length
pub data PrintAnswer : Type 0 where
  refused : ℕ → PrintAnswer
  written : ℕ → PrintAnswer

abbrev pub answer_of : Result ℕ Refusal → PrintAnswer
answer_of (Ok n) = written n
answer_of (Err r) = refused (refusal_number r)

pub record PrintOutcome : Type 0 where
  pub answer : PrintAnswer
  pub output : List ℕ

abbrev pub print_outcome : PrintAnswer → List ℕ → PrintOutcome
print_outcome a out = record { answer = a; output = out }

-- "a line's identifier above" 2^31 + 2,097,152
abbrev pub nid_too_large : List ℕ → ℕ → ℕ → Bool
nid_too_large ws lines p = ltb most_nid (nid_at (nodes ws lines) p)

unfoldable pub nids_too_large : List ℕ → ℕ → Bool
nids_too_large ws lines = some lines (nid_too_large ws lines)

-- 9 of a whole list: "more than 1,048,576 lines; [..] a line's identifier above that sum [..] when printing; or a count above its storage"
abbrev pub whole_out : List ℕ → ℕ → Bool
whole_out ws lines = lines_out (capacity (length ws)) lines || nids_too_large ws lines

-- the first of 9 and 11 that applies to a whole list, or 0: what printing tests before anything else, and whoever refuses "as 9 and 11 in
-- printing" (document 02, R-10 and R-12). The name areas are `host` and `ours` bytes long.
unfoldable pub whole_refusal : List ℕ → ℕ → ℕ → ℕ → ℕ
whole_refusal ws lines host ours = cond (whole_out ws lines) 9 (cond (unformed_words ws lines host ours) 11 0)

-- the first refusal that applies, with the output as it was; or the text of the run at the output's start, and after it what was there. "a run
-- outside the list" is 9 too.
unfoldable pub printing : List ℕ → ℕ → List ℕ → List ℕ → ℕ → ℕ → List ℕ → PrintOutcome
printing ws lines host ours from count out =
    let text = run_text host ours (nodes ws lines) from count in
    let number = whole_refusal ws lines (length host) (length ours) in
    cond (ltb lines (from + count)) (print_outcome (refused 9) out)
    (cond (not (eqb number 0)) (print_outcome (refused number) out)
    (cond (ltb (length out) (length text)) (print_outcome (refused 14) out) (print_outcome (written (length text)) (text ++ drop (length text) out))))
