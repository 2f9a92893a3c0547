-- One join of a list of calls, accepted or refused, whatever the host lends with it. Assumes nothing.
use Prim.Native.Nat.{ℕ, ◌≤◌, ◌<◌}
use mathlib.Core.Path.{◌≡◌, refl, sym, ◌∙◌, ap, subst}
use mathlib.Core.Bool.{Bool, true, false, cond}
use mathlib.Core.List.{List, [], ◌++◌, append-nil}
use native.Mathlib.Omega.{arith}
use borrow.Author.Tests.{eqb-true}
use lib.Dec.{T, eqb}
use lib.ListN.{length, take}
use Rattle.btor2.specs.declared.NodeRef.{NodeRef}
use Rattle.btor2.specs.declared.NodeType.TheVariants.{Word, Memory}
use Rattle.btor2.specs.SortRule.{meets_sort_rule}
use Rattle.btor2.specs.Value.{Env, value}
use Rattle.btor2.proofs.SortRule.{line_kept}
use Rattle.btor2_list.specs.Record.{words_for}
use Rattle.state.specs.Roles.{role, memory_flow, register_flow}
use Rattle.meaning.specs.Lines.{operators}
use Rattle.meaning.proofs.Behind.{inside}
use Rattle.roles_kept.proofs.RoleSets.{Fit, Roled, fit_flow}
use Rattle.builder.specs.Prog.{exec}
use Rattle.join.specs.Listed.{append_listed}
use Rattle.join.specs.Refusal.{JoinLent, JoinInput, join_program, join_refusal}
use Rattle.join.specs.declared.JoinHeld.{JoinHeld}
use Rattle.join.specs.Join.{JoinAnswer, join_store, join_settled, join_refused, joining}
use Rattle.join_laws.specs.Means.{AcceptedJoin}
use Rattle.join_laws.proofs.Accepted.{held, joins_mean}
use Rattle.demand.specs.Calls.{Held, lines_in, Join, join, lent_join, held_join, join_answer_to, join_accepted, step}
use Rattle.demand.specs.Demand3.{register_flow_value, memory_flow_value}
use Rattle.demand.proofs.Views.{front_operators, front_length}
use Rattle.demand.proofs.Call.{Good}
use Rattle.demand.proofs.Step.{Sound, Extends, values_kept}
use Rattle.demand.proofs.CallValues.{Flows}

-- accepted
abbrev went : JoinLent → JoinHeld → JoinInput → JoinAnswer
went l k g = join_settled l k g (exec append_listed (join_store l k) (join_program k.state g))

pick : (t : Bool) (n : ℕ) (a b : JoinAnswer) → eqb n 0 ≡ t → a.refusal ≡ 0 → b.refusal ≡ n → (cond t a b).refusal ≡ n
pick true n a b e p q = p ∙ sym (eqb-true n 0 e)
pick false n a b e p q = q

pub refusal_is : (l : JoinLent) (k : JoinHeld) (g : JoinInput) → (joining l k g).refusal ≡ join_refusal l k g
unfolding joining join_settled
refusal_is l k g = pick (eqb (join_refusal l k g) 0) (join_refusal l k g) (went l k g) (join_refused (join_refusal l k g) l k g) refl refl refl

same : (t : Bool) (rs : List NodeRef) (a b : JoinAnswer) → a.held.state.roles ≡ rs → b.held.state.roles ≡ rs → (cond t a b).held.state.roles ≡ rs
same true rs a b p q = p
same false rs a b p q = q

module _ (h : Held) (c : Join) where
  abbrev pub number : ℕ
  number = join_refusal (lent_join h c) (held_join h c) c.given

  accepted_is : join_accepted h c ≡ eqb number 0
  unfolding join_accepted join_answer_to
  accepted_is = ap (λ n. eqb n 0) (refusal_is (lent_join h c) (held_join h c) c.given)

  abbrev pub taken : Held
  taken = record { list = (join_answer_to h c).lent.list; names = (join_answer_to h c).lent.names; state = (join_answer_to h c).held.state }

  pub by_step : (Q : Held → Type 0) → (number ≡ 0 → Q taken) → Q h → Q (step h (join c))
  unfolding step
  by_step Q hit miss = go (join_accepted h c) refl
    where
      go : (b : Bool) → join_accepted h c ≡ b → Q (cond b taken h)
      go true q = hit (eqb-true number 0 (sym accepted_is ∙ q))
      go false q = miss

  -- no role changes
  pub roles_join : (step h (join c)).state.roles ≡ h.state.roles
  unfolding join_answer_to joining join_settled held_join
  roles_join =
      by_step (λ x. x.state.roles ≡ h.state.roles)
      (λ q. same (eqb number 0) h.state.roles (went (lent_join h c) (held_join h c) c.given) (join_refused number (lent_join h c) (held_join h c) c.given) refl refl) refl

  -- an accepted join is lent room for the lines in use
  pub roomy : number ≡ 0 → words_for h.state.tally.lines ≤ length c.list
  unfolding lent_join held_join
  roomy q = omega (arith, held (lent_join h c) (held_join h c) c.given q, front_length (take (words_for h.state.tally.lines) h.list) c.list)

  module _ (s : Sound h) where
    stored : words_for h.state.tally.lines ≤ length h.list
    unfolding Sound
    stored = s.stored

    module _ (q : number ≡ 0) where
      lent_lines : operators (lent_join h c).list h.state.tally.lines ≡ lines_in h
      unfolding lent_join
      lent_lines = front_operators h.list c.list h.state.tally.lines stored (roomy q)

      accepted : AcceptedJoin (lent_join h c) (held_join h c) c.given (join_answer_to h c)
      unfolding Sound join_answer_to held_join
      accepted = joins_mean (lent_join h c) (held_join h c) c.given (subst (λ xs. T (meets_sort_rule xs)) (sym lent_lines) s.sorted) s.roles.size q

      -- the lines after it
      after : lines_in taken ≡ lines_in h ++ accepted.more
      unfolding held_join
      after = accepted.extends ∙ ap (λ xs. xs ++ accepted.more) lent_lines

      roled : Roled (lines_in taken) taken.state.roles
      unfolding Sound Fit held_join
      roled = record {
        size = ap length accepted.roles ∙ s.roles.size;
        fit = λ j m. rw (after, accepted.roles) (subst T (sym (line_kept _ (lines_in h) accepted.more (role h.state.roles j).0 (inside _ (lines_in h) _ (s.roles.fit j m)))) (s.roles.fit j m));
      }

    pub sound_join : Sound (step h (join c))
    unfolding Sound
    sound_join = by_step (λ x. Good x.list x.state) (λ q. record { stored = (accepted q).stored; sorted = (accepted q).sorted; roles = roled q }) s

    pub extends_join : Extends h (step h (join c))
    extends_join = by_step (λ x. Extends h x) (λ q. record { more = (accepted q).more; lines = after q }) (record { more = []; lines = sym (append-nil (lines_in h)) })

    pub flows_join : (env : Env) → Flows env (lines_in (step h (join c))) (step h (join c)).state.roles (register_flow_value env h) (memory_flow_value env h)
    unfolding register_flow_value memory_flow_value Sound Fit
    flows_join env =
        rw roles_join
        (record {
          registers = λ r a b. ap (λ u. u.num) (kept (register_flow h.state.roles r).0 (inside Word (lines_in h) _ (fit_flow (lines_in h) h.state.roles s.roles.fit r)));
          memory = λ a b. ap (λ u. u.mem a) (kept (role h.state.roles memory_flow).0 (inside Memory (lines_in h) _ (s.roles.fit memory_flow (omega arith))));
        })
      where
        kept : (p : ℕ) → p < length (lines_in h) → value env (lines_in (step h (join c))) p ≡ value env (lines_in h) p
        kept = values_kept env h (step h (join c)) extends_join
