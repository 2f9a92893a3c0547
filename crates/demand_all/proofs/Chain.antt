-- Call by call: what the host keeps passes on as demand 3's does. Assumes nothing.
use Prim.Native.Nat.{ℕ, ◌≤◌}
use mathlib.Core.Path.{◌≡◌, refl, sym, ap, subst, ◌∙◌}
use mathlib.Core.Bool.{Bool, true, false, cond}
use mathlib.Core.List.{List, [], ◌∷◌}
use borrow.Author.Tests.{le-ltb, eq-eqb, ne_eqb, eqb-true, eqb-false}
use lib.Dec.{eqb}
use lib.ListN.{length, set, length-set}
use Rattle.btor2_list.specs.Record.{words_for}
use Rattle.state.specs.Roles.{role_count}
use Rattle.state.specs.declared.State.{State}
use Rattle.lowering.specs.Lowering.{Lent, lent, Answer, lowering}
use Rattle.state.specs.Words.{state_words, state_in, roles_in, with_state}
use Rattle.lowering.specs.Words.{given_by, lowering_words}
use Rattle.lowering.proofs.Refused.{refused_kept}
use Rattle.state.proofs.Words.{by_six, size_in, state_kept, put_length}
use Rattle.lowering.proofs.Words.{read_back}
use Rattle.roles_kept.proofs.Call.{called, refusal_is, roled_after}
use Rattle.state.specs.declared.Counts.{Counts}
use Rattle.join.specs.declared.JoinHeld.{JoinHeld}
use Rattle.join.specs.Refusal.{join_line_count, join_program, join_room_out, join_refusal, join_lent, JoinLent, JoinInput}
use Rattle.builder.specs.Prog.{exec}
use Rattle.join.specs.Listed.{append_listed}
use Rattle.join.specs.Join.{join_settled, join_refused, join_store, joining, JoinAnswer}
use Rattle.join.specs.Words.{joining_words, join_by}
use Rattle.join.proofs.Laws.{refused_leaves, roles_stay}
use Rattle.demand.proofs.JoinStep.{refusal_is as join-refusal-is}
use Rattle.demand.specs.Calls.{Held, lower, join, in_front, lent_for, state_for, answer_to, accepted, lent_join, held_join, join_answer_to, join_accepted, step, run}
use Rattle.demand_all.specs.Chain.{Kept, LowerLink, JoinLink, Link, lowers, joins, with_counts, answer_by, join_answer_by, after, chain, request_for, join_for, call_for, chain_calls, held_in, PassesOn, ChainIsRun}
use Rattle.demand_all.proofs.Many.{front_self, refused_lent}

-- ---- the counts that the host sets

abbrev counted : State → LowerLink → State
counted s c = record {
  tally = s.tally;
  counts = record { names = s.counts.names; edges = c.edge_count; dispatches = c.dispatch_count; bads = c.bad_count };
  roles = s.roles;
}

read_counts : (ws : List ℕ) (c : LowerLink) → state_words ≤ length ws → state_in (with_counts ws c) ≡ counted (state_in ws) c
unfolding state_in roles_in
read_counts ws c h = by_six (λ ws. state_in (with_counts ws c) ≡ counted (state_in ws) c) ws h (λ a b d e f g rest l. refl)

counts_length : (ws : List ℕ) (c : LowerLink) → length (with_counts ws c) ≡ length ws
counts_length ws c = length-set (set (set ws 3 c.edge_count) 4 c.dispatch_count) 5 c.bad_count ∙ length-set (set ws 3 c.edge_count) 4 c.dispatch_count ∙ length-set ws 3 c.edge_count

-- ---- one call

module _ (h : Held) (k : Kept) (c : LowerLink) (p : PassesOn h k) (enough : state_words ≤ length k.state) where
  abbrev words : List ℕ
  words = with_counts k.state c

  abbrev st : State
  st = state_in words

  abbrev l : Lent
  l = lent k.list k.names c.edges c.dispatches c.bads

  abbrev a : Answer
  a = lowering l st c.call.instruction c.call.address c.call.flag

  long : state_words ≤ length words
  long = rw (counts_length k.state c) enough

  lent_is : lent_for h (request_for k c) ≡ l
  unfolding lent_for in_front
  lent_is = rw (p.list, p.names, front_self (words_for h.state.tally.lines) k.list, front_self h.state.counts.names k.names)

  state_is : state_for h (request_for k c) ≡ st
  unfolding state_for
  state_is = rw (read_counts k.state c enough, p.tally, p.used, p.roles)

  answer_is : answer_to h (request_for k c) ≡ a
  unfolding answer_to
  answer_is = rw (lent_is, state_is)

  given_is : answer_by k c ≡ given_by words a
  unfolding answer_by lowering_words
  given_is = rw (le-ltb (length words) state_words long)

  sized : length st.roles ≡ role_count
  unfolding state_in
  sized = size_in words

  module _ (b : Bool) (q : eqb a.lowered.refusal 0 ≡ b) where
    step_is : step h (lower (request_for k c)) ≡ cond b (record { list = a.lent.list; names = a.lent.names; state = a.lowered.state }) h
    unfolding step accepted
    step_is = rw (answer_is, q)

  taken : a.lowered.refusal ≡ 0 → (state_words ≤ length (after k (lowers c)).state) × PassesOn (step h (lower (request_for k c))) (after k (lowers c))
  unfolding after
  taken e =
      let size : length a.lowered.state.roles ≡ role_count = (roled_after (called l st c.call.instruction c.call.address c.call.flag) (record { size = sized; passed = sym (refusal_is l st c.call.instruction c.call.address c.call.flag) ∙ e })).size in
      let read : state_in (with_state words a.lowered.state) ≡ a.lowered.state = read_back words a.lowered.state size in
      rw (given_is, step_is true (eq-eqb a.lowered.refusal 0 e)) (
        put_length words a.lowered.state size,
        record { list = refl; names = refl; tally = ap (λ (s : State). s.tally) (sym read); used = ap (λ (s : State). s.counts.names) (sym read); roles = ap (λ (s : State). s.roles) (sym read) },
      )

  turned_away : (a.lowered.refusal ≡ 0 → ⊥) → (state_words ≤ length (after k (lowers c)).state) × PassesOn (step h (lower (request_for k c))) (after k (lowers c))
  unfolding after
  turned_away n =
      let same : with_state words a.lowered.state ≡ words = ap (with_state words) (refused_kept _ l st c.call.instruction c.call.address c.call.flag n) ∙ state_kept words long in
      let lists : a.lent ≡ l = refused_lent l st c.call n in
      rw (given_is, step_is false (ne_eqb a.lowered.refusal 0 n), same, lists) (
        long,
        record {
          list = p.list;
          names = p.names;
          tally = p.tally ∙ ap (λ (s : State). s.tally) (sym (read_counts k.state c enough));
          used = p.used ∙ ap (λ (s : State). s.counts.names) (sym (read_counts k.state c enough));
          roles = p.roles ∙ ap (λ (s : State). s.roles) (sym (read_counts k.state c enough));
        },
      )

  one_lowering : (state_words ≤ length (after k (lowers c)).state) × PassesOn (step h (lower (request_for k c))) (after k (lowers c))
  one_lowering = go (eqb a.lowered.refusal 0) refl
    where
      go : (b : Bool) → eqb a.lowered.refusal 0 ≡ b → (state_words ≤ length (after k (lowers c)).state) × PassesOn (step h (lower (request_for k c))) (after k (lowers c))
      go true q = taken (eqb-true a.lowered.refusal 0 q)
      go false q = turned_away (eqb-false a.lowered.refusal 0 q)

-- ---- one join: it looks at the tally, the count of names and the roles, and at no other count

abbrev with_others : State → Counts → State
with_others s o = record { tally = s.tally; counts = record { names = s.counts.names; edges = o.edges; dispatches = o.dispatches; bads = o.bads }; roles = s.roles }

abbrev holding : State → ℕ → JoinHeld
holding s n = record { state = s; sequentials = n }

record Agree (a b : JoinAnswer) : Type 0 where
  refusal : a.refusal ≡ b.refusal
  lent : a.lent ≡ b.lent
  tally : a.held.state.tally ≡ b.held.state.tally
  used : a.held.state.counts.names ≡ b.held.state.counts.names
  roles : a.held.state.roles ≡ b.held.state.roles

either : (t : Bool) (a b c d : JoinAnswer) → Agree a c → Agree b d → Agree (cond t a b) (cond t c d)
either true a b c d x y = x
either false a b c d x y = y

-- accepted
abbrev went : JoinLent → JoinHeld → JoinInput → JoinAnswer
went l h g = join_settled l h g (exec append_listed (join_store l h) (join_program h.state g))

agree : (l : JoinLent) (s : State) (o : Counts) (n : ℕ) (g : JoinInput) → Agree (joining l (holding (with_others s o) n) g) (joining l (holding s n) g)
unfolding joining join_settled join_refusal join_room_out join_line_count join_program
agree l s o n g =
    let before = holding (with_others s o) n in
    let after = holding s n in
    either (eqb (join_refusal l after g) 0) (went l before g) (join_refused (join_refusal l before g) l before g) (went l after g) (join_refused (join_refusal l after g) l after g)
    (record { refusal = refl; lent = refl; tally = refl; used = refl; roles = refl }) (record { refusal = refl; lent = refl; tally = refl; used = refl; roles = refl })

module _ (h : Held) (k : Kept) (c : JoinLink) (p : PassesOn h k) (enough : state_words ≤ length k.state) where
  abbrev joined_lent : JoinLent
  joined_lent = join_lent k.list k.names c.sequentials

  abbrev joined : JoinAnswer
  joined = joining joined_lent (holding (state_in k.state) c.used) c.given

  join_lent_is : lent_join h (join_for k c) ≡ joined_lent
  unfolding lent_join in_front
  join_lent_is = rw (p.list, p.names, front_self (words_for h.state.tally.lines) k.list, front_self h.state.counts.names k.names)

  same : Agree (join_answer_to h (join_for k c)) joined
  unfolding join_answer_to held_join
  same = rw (join_lent_is, p.tally, p.used, p.roles) (agree joined_lent (state_in k.state) h.state.counts c.used c.given)

  join_given_is : join_answer_by k c ≡ join_by k.state joined
  unfolding join_answer_by joining_words
  join_given_is = rw (le-ltb (length k.state) state_words enough)

  join_step : (b : Bool) → eqb joined.refusal 0 ≡ b
      → step h (join (join_for k c)) ≡ cond b (record { list = (join_answer_to h (join_for k c)).lent.list; names = (join_answer_to h (join_for k c)).lent.names; state = (join_answer_to h (join_for k c)).held.state }) h
  unfolding step join_accepted
  join_step b q = rw (same.refusal, q)

  size : length joined.held.state.roles ≡ role_count
  unfolding state_in
  size = ap length (roles_stay joined_lent (holding (state_in k.state) c.used) c.given) ∙ size_in k.state

  turned : eqb joined.refusal 0 ≡ false → joined ≡ join_refused (join_refusal joined_lent (holding (state_in k.state) c.used) c.given) joined_lent (holding (state_in k.state) c.used) c.given
  turned q =
      refused_leaves joined_lent (holding (state_in k.state) c.used) c.given
      (λ z. eqb-false joined.refusal 0 q (join-refusal-is joined_lent (holding (state_in k.state) c.used) c.given ∙ z))

  pub one_join : (state_words ≤ length (after k (joins c)).state) × PassesOn (step h (join (join_for k c))) (after k (joins c))
  unfolding after
  one_join = rw join_given_is (go (eqb joined.refusal 0) refl)
    where
      read : state_in (with_state k.state joined.held.state) ≡ joined.held.state
      read = read_back k.state joined.held.state size

      go : (b : Bool) → eqb joined.refusal 0 ≡ b
          → (state_words ≤ length (with_state k.state joined.held.state))
          × PassesOn (step h (join (join_for k c))) (record { list = joined.lent.list; names = joined.lent.names; state = with_state k.state joined.held.state })
      go true q = (
        put_length k.state joined.held.state size,
        rw (join_step true q) (record {
          list = ap (λ (l : JoinLent). l.list) same.lent;
          names = ap (λ (l : JoinLent). l.names) same.lent;
          tally = same.tally ∙ ap (λ (s : State). s.tally) (sym read);
          used = same.used ∙ ap (λ (s : State). s.counts.names) (sym read);
          roles = same.roles ∙ ap (λ (s : State). s.roles) (sym read);
        }),
      )
      go false q = (
        put_length k.state joined.held.state size,
        rw (join_step false q) (subst (λ (a : JoinAnswer). PassesOn h (record { list = a.lent.list; names = a.lent.names; state = with_state k.state a.held.state })) (sym (turned q)) (rw (state_kept k.state enough) p)),
      )

-- ---- all

pub one : (h : Held) (k : Kept) (c : Link) → PassesOn h k → state_words ≤ length k.state → (state_words ≤ length (after k c).state) × PassesOn (step h (call_for k c)) (after k c)
one h k (lowers c) p e = one_lowering h k c p e
one h k (joins c) p e = one_join h k c p e

all : (cs : List Link) (h : Held) (k : Kept) → PassesOn h k → state_words ≤ length k.state → PassesOn (run h (chain_calls k cs)) (chain k cs)
unfolding run chain chain_calls
all [] h k p e = p
all (c ∷ cs) h k p e = all cs (step h (call_for k c)) (after k c) (one h k c p e).1 (one h k c p e).0

pub chain_is_run : ChainIsRun
chain_is_run k cs e = all cs (held_in k) k (record { list = refl; names = refl; tally = refl; used = refl; roles = refl }) e
