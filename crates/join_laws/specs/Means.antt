-- What an accepted join does to the list and what its flow means.
use Rattle.std.specs.Prelude.{ℕ, ◌+◌, ◌≤◌, ◌≡◌, true, ◌||◌, List, ◌++◌, T, length, None}
use Rattle.btor2.specs.Op.{Op}
use Rattle.btor2.specs.SortRule.{meets_sort_rule}
use Rattle.btor2.specs.Value.{Env, value}
use Rattle.btor2_list.specs.Record.{words_for}
use Rattle.btor2_list.specs.View.{view}
use Rattle.list_check.specs.Lines.{any}
use Rattle.builder.specs.Lines.{lines_of, place_after}
use Rattle.lowering_laws.specs.Elsewhere.{Elsewhere}
use Rattle.lowering_laws.specs.Lines.{numbered, taking}
use Rattle.meaning.specs.Lines.{operators}
use Rattle.state.specs.Roles.{role, zero_bit, one_bit, role_count, register_node}
use Rattle.state.specs.RolesFit.{roles_fit}
use Rattle.join.specs.Program.{names_of}
use Rattle.join.specs.Given.{dynamic_for}
use Rattle.join.specs.declared.JoinHeld.{JoinHeld}
use Rattle.join.specs.Refusal.{JoinLent, JoinInput, edges_of, dispatches_of, flag_of, bits_in, kernel_in, join_program, join_line_count, join_refusal}
use Rattle.join.specs.Join.{JoinAnswer, joining}
use Rattle.join_laws.specs.Active.{on, any_active, active_plain, active_dispatch, NoSyscall}

-- "where the zero-bit and one-bit nodes evaluate to 0 and 1": under the states and inputs env
pub record ZeroAndOne (env : Env) (l : JoinLent) (h : JoinHeld) : Type 0 where
  pub zero : (value env (operators l.list h.state.tally.lines) (role h.state.roles zero_bit).0).num ≡ 0
  pub one : (value env (operators l.list h.state.tally.lines) (role h.state.roles one_bit).0).num ≡ 1

module _ (l : JoinLent) (h : JoinHeld) (g : JoinInput) where
  abbrev before : List (Op ℕ)
  before = operators l.list h.state.tally.lines

  abbrev after : JoinAnswer → List (Op ℕ)
  after a = operators a.lent.list a.held.state.tally.lines

  pub record AcceptedJoin (a : JoinAnswer) : Type 0 where
    pub refusal : a.refusal ≡ 0
    -- the lines of the join's program after those that stand, under the next identifiers
    pub nodes : view a.lent.list a.held.state.tally.lines
        ≡ view l.list h.state.tally.lines ++ numbered None h.state.tally.nid (lines_of (place_after h.state.tally.lines) 0 (join_program h.state g))
    pub lines : a.held.state.tally.lines ≡ h.state.tally.lines + join_line_count h.state g
    pub nids : a.held.state.tally.nid ≡ h.state.tally.nid + taking (lines_of (place_after h.state.tally.lines) 0 (join_program h.state g))
    pub roles : a.held.state.roles ≡ h.state.roles
    -- and they fit again, so that another call can follow
    pub fit : roles_fit a.lent.list a.held.state.tally.lines 0 a.held.state.roles ≡ true
    pub stored : words_for a.held.state.tally.lines ≤ length a.lent.list
    -- what is lent changes after what is in use, as far as is counted, and nowhere else
    pub list : Elsewhere (words_for h.state.tally.lines) (words_for (h.state.tally.lines + join_line_count h.state g)) l.list a.lent.list
    pub names : Elsewhere h.state.counts.names (h.state.counts.names + length (names_of (edges_of g))) l.names a.lent.names
    pub sequentials : Elsewhere h.sequentials a.held.sequentials l.sequentials a.lent.sequentials
    -- every line meets the sort rule, and no value before changes
    pub more : List (Op ℕ)
    pub extends : after a ≡ before ++ more
    pub sorted : T (meets_sort_rule (after a))
    -- the flow: 1 exactly where an edge or a dispatch is active, or the starting flow was 1
    pub means : (env : Env) → ZeroAndOne env l h
        → on env (after a) a.flow
        ≡ ((any_active env (flag_of g) (bits_in h.state) (kernel_in g) before h.state.counts.names (edges_of g) g.asked.flow.0
        || any (active_dispatch env (λ r. (register_node h.state.roles r).0) (dynamic_for g.dynamics) before) (dispatches_of g)) || on env before g.asked.flow.0)
    -- "For regular and branch edges [..] the result is 1 exactly when an edge is active (its source's flag, and for a branch its condition too, is
    -- 1) or the starting flow was 1": all of them values of the list before the join
    pub plain : (env : Env) → ZeroAndOne env l h → NoSyscall (edges_of g) → g.asked.dispatches ≡ 0
        → on env (after a) a.flow ≡ (any (active_plain env (flag_of g) before) (edges_of g) || on env before g.asked.flow.0)

-- the claim: of every accepted join on a list that meets the sort rule
abbrev pub JoinsMean : Type 0
JoinsMean = (l : JoinLent) (h : JoinHeld) (g : JoinInput) → T (meets_sort_rule (operators l.list h.state.tally.lines))
    -- what the code's type of the roles gives: an array
    → length h.state.roles ≡ role_count → join_refusal l h g ≡ 0 → AcceptedJoin l h g (joining l h g)
