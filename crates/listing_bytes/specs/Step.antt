-- One step of the listing: a line of input, and what comes of it (document 01, "The listing program has its own start").
use Rattle.std.specs.Prelude.{ℕ, ◌-◌, cond, List, ◌++◌, eqb, Option, Some, None}
use Rattle.btor2_list.specs.Node.{Node}
use Rattle.line_text.specs.Line.{nodes, run_text}
use Rattle.listing_input.specs.declared.line.Parsed.{Parsed}
use Rattle.listing_input.specs.Line.{parse_line}
use Rattle.listing_start.specs.Start.{placed, host_area}
use Rattle.listing_text.specs.Remarks.{edges_text, dispatches_text, refused_text}
use Rattle.lowering.specs.Lowering.{Lent, Answer, lowering}
use Rattle.state.specs.declared.State.{State}

-- what a line of input gives: the state and the lent lists after it, and its output
pub record Step : Type 0 where
  pub state : State
  pub lent : Lent
  pub text : List ℕ

-- "edges and dispatches are emptied after each line"
unfoldable pub emptied : State → State
emptied st = record {
  tally = st.tally;
  counts = record { names = st.counts.names; edges = 0; dispatches = 0; bads = st.counts.bads };
  roles = st.roles;
}

-- "After each line come its node lines, then edges … , dispatches …"; `from` is how many lines there were
unfoldable pub appended_text : ℕ → Lent → State → List ℕ
appended_text from l st =
    let ns : List Node = nodes l.list st.tally.lines in
    run_text host_area l.names ns from (st.tally.lines - from) ++ edges_text ns l.edges st.counts.edges
    ++ dispatches_text l.dispatches st.counts.dispatches

-- "or `; refused LINE NUMBER`"
unfoldable pub answer_text : ℕ → ℕ → Answer → List ℕ
answer_text line from a =
    cond (eqb a.lowered.refusal 0) (appended_text from a.lent a.lowered.state) (refused_text line a.lowered.refusal)

abbrev pub answer_step : ℕ → ℕ → Answer → Step
answer_step line from a = record { state = a.lowered.state; lent = a.lent; text = answer_text line from a }

-- "Every instruction uses flag 58." "Number 0 means over 256 bytes or not six fields"
abbrev pub parsed_step : ℕ → Lent → State → Option Parsed → Step
parsed_step line l st None = record { state = st; lent = l; text = refused_text line 0 }
parsed_step line l st (Some p) = answer_step line st.tally.lines (lowering l st p.instruction p.address (placed 58))

-- the line of this number
unfoldable pub step : ℕ → List ℕ → Lent → State → Step
step number line l st = parsed_step number l (emptied st) (parse_line line)
