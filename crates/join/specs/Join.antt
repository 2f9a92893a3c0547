-- One join: refused, all is as it was; accepted, the lines of its program after the others, its names, its Nexts with the sequentials, and the
-- new flow. No role changes.
use Rattle.std.specs.Prelude.{ℕ, ◌+◌, cond, eqb, length}
use Rattle.std.proofs.lemmas.List.Edits.{sets}
use Rattle.builder.specs.declared.Tally.{Tally}
use Rattle.builder.specs.Append.{at}
use Rattle.builder.specs.Prog.{Run, exec}
use Rattle.join.specs.Listed.{Listed, listed, append_listed}
use Rattle.join.specs.declared.JoinHeld.{JoinHeld}
use Rattle.join.specs.Program.{names_of}
use Rattle.join.specs.Refusal.{JoinLent, join_lent, JoinInput, edges_of, join_program, join_refusal}

-- what a call gives: the refusal, the flow, what passes on, and the lent lists as it leaves them
pub record JoinAnswer : Type 0 where
  pub refusal : ℕ
  pub flow : ℕ
  pub held : JoinHeld
  pub lent : JoinLent

abbrev pub join_answer : ℕ → ℕ → JoinHeld → JoinLent → JoinAnswer
join_answer n flow h l = record { refusal = n; flow = flow; held = h; lent = l }

-- what passes on: no role changes, and of the counts that of our names alone
abbrev pub held_after : JoinHeld → Tally → ℕ → ℕ → JoinHeld
held_after h t names sequentials =
    let c = h.state.counts in
    record {
      state = record { tally = t; counts = record { names = names; edges = c.edges; dispatches = c.dispatches; bads = c.bads }; roles = h.state.roles };
      sequentials = sequentials;
    }

-- what an accepted call gives, from the run of its program
unfoldable pub join_settled : JoinLent → JoinHeld → JoinInput → Run Listed ℕ → JoinAnswer
join_settled l h g r =
    let names = names_of (edges_of g) in
    let used = h.state.counts.names in
    join_answer 0 r.value (held_after h r.state.store.tally (used + length names) r.state.count)
    (join_lent r.state.store.words (sets l.names used names) r.state.sequentials)

-- a refused call gives its number, and all as it was
abbrev pub join_refused : ℕ → JoinLent → JoinHeld → JoinInput → JoinAnswer
join_refused n l h g = join_answer n g.asked.flow.0 h l

-- the store that a call starts from
abbrev pub join_store : JoinLent → JoinHeld → Listed
join_store l h = listed (at l.list h.state.tally) l.sequentials h.sequentials

unfoldable pub joining : JoinLent → JoinHeld → JoinInput → JoinAnswer
joining l h g =
    cond (eqb (join_refusal l h g) 0) (join_settled l h g (exec append_listed (join_store l h) (join_program h.state g))) (join_refused (join_refusal l h g) l h g)
