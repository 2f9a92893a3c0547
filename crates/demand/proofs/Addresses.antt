-- Any list of calls: each line has the address of the call whose output it stands in, and the start's lines what they had. Assumes nothing.
use Rattle.std.specs.Prelude.{Option, Some, None}
use Prim.Native.Nat.{ℕ, ◌+◌, ◌-◌, ◌≤◌}
use mathlib.Core.Path.{◌≡◌, refl, sym, ◌∙◌, ap}
use mathlib.Core.List.{List, [], ◌∷◌, ◌++◌, map, map-append, append_assoc, append-nil}
use native.Mathlib.Omega.{arith}
use lib.ListN.{length, replicate, length-append, length-map}
use Rattle.btor2.specs.Op.{Op, identifiers}
use Rattle.btor2_list.specs.Record.{words_for}
use Rattle.btor2_list.specs.Node.{Node}
use Rattle.btor2_list.specs.View.{view}
use Rattle.btor2_list.proofs.View.{view-length}
use Rattle.lowering_laws.specs.Lines.{numbered}
use Rattle.lowering_laws.proofs.OneCall as O
use Rattle.roles_kept.proofs.Call as K
use Rattle.roles_kept.proofs.Views.{numbered_operators}
use Rattle.join_laws.proofs.Accepted.{nodes_after, stored_after}
use Rattle.demand.specs.Calls.{Held, Request, Join, Call, lower, join, lent_for, state_for, answer_to, lent_join, held_join, join_answer_to, step, run}
use Rattle.demand.specs.Laws.{addresses_in, address_of, addresses_by, LinesRemember}
use Rattle.demand.proofs.Views.{front_view}
use Rattle.demand.proofs.Step as S
use Rattle.demand.proofs.JoinStep as J
use Rattle.demand.proofs.Demand3.{stored}

-- ---- lines that are appended with one address, or without one

numbered_addresses : (w : Option ℕ) (nid : ℕ) (os : List (Op ℕ)) → map (λ line. line.address) (numbered w nid os) ≡ replicate (length os) w
unfolding numbered
numbered_addresses w nid [] = refl
numbered_addresses w nid (o ∷ os) = ap (λ r. w ∷ r) (numbered_addresses w (nid + identifiers o) os)

numbered_length : (w : Option ℕ) (nid : ℕ) (os : List (Op ℕ)) → length (numbered w nid os) ≡ length os
numbered_length w nid os = sym (length-map (numbered w nid os) (λ (line : Node). line.op)) ∙ ap length (numbered_operators w nid os)

-- what is held has room for its lines, and more lines than what was held before, all with w
record Grown (w : Option ℕ) (h after : Held) : Type 0 where
  stored : words_for after.state.tally.lines ≤ length after.list
  addresses : addresses_in after ≡ addresses_in h ++ replicate (after.state.tally.lines - h.state.tally.lines) w

by_lines : (w : Option ℕ) (h after : Held) (nid : ℕ) (os : List (Op ℕ)) (lent : List Node) → view after.list after.state.tally.lines ≡ lent ++ numbered w nid os → lent ≡ view h.list h.state.tally.lines
    → addresses_in after ≡ addresses_in h ++ replicate (after.state.tally.lines - h.state.tally.lines) w
unfolding addresses_in
by_lines w h after nid os lent after-it is =
    let e : view after.list after.state.tally.lines ≡ view h.list h.state.tally.lines ++ numbered w nid os = after-it ∙ ap (λ (v : List Node). v ++ numbered w nid os) is in
    let long : after.state.tally.lines ≡ h.state.tally.lines + length os =
    sym (view-length after.list after.state.tally.lines) ∙ ap length e ∙ length-append (view h.list h.state.tally.lines) (numbered w nid os) ∙ rw (view-length h.list h.state.tally.lines, numbered_length w nid os) in
    let count : length os ≡ after.state.tally.lines - h.state.tally.lines = omega arith in
    ap (map (λ line. line.address)) e
    ∙ map-append (λ (line : Node). line.address) (view h.list h.state.tally.lines) (numbered w nid os)
    ∙ ap (λ (r : List (Option ℕ)). map (λ line. line.address) (view h.list h.state.tally.lines) ++ r) (numbered_addresses w nid os ∙ ap (λ (k : ℕ). replicate k w) count)

-- a refused call
unchanged : (w : Option ℕ) (h : Held) → words_for h.state.tally.lines ≤ length h.list → Grown w h h
unchanged w h stored =
    let none : h.state.tally.lines - h.state.tally.lines ≡ 0 = omega arith in
    record { stored = stored; addresses = rw none (sym (append-nil (addresses_in h))) }

-- ---- one call

module _ (h : Held) (stored : words_for h.state.tally.lines ≤ length h.list) where
  lowers : (c : Request) → Grown (Some c.call.address) h (step h (lower c))
  unfolding answer_to lent_for state_for
  lowers c = S.by_step h c (λ b x. Grown (Some c.call.address) h x) taken (unchanged _ h stored)
    where
      taken : K.number (S.call h c) ≡ 0 → Grown (Some c.call.address) h (S.left h c)
      taken q =
          let l = lent_for h c in
          let st = state_for h c in
          let i = c.call.instruction in
          let address = c.call.address in
          let a = O.when_accepted l st i address c.call.flag q in
          let room = O.room l st i address c.call.flag q in
          record {
            stored = omega (arith, a.lines, a.list.size, room.lines);
            addresses = by_lines (Some address) h (S.left h c) h.state.tally.nid _ (view l.list h.state.tally.lines) a.nodes (front_view h.list c.list h.state.tally.lines stored (S.roomy h c q));
          }

  joins : (c : Join) → Grown None h (step h (join c))
  unfolding join_answer_to lent_join held_join
  joins c = J.by_step h c (λ x. Grown None h x) taken (unchanged None h stored)
    where
      taken : J.number h c ≡ 0 → Grown None h (J.taken h c)
      taken q =
          let l = lent_join h c in
          let k = held_join h c in
          record {
            stored = stored_after l k c.given q;
            addresses = by_lines None h (J.taken h c) h.state.tally.nid _ (view l.list h.state.tally.lines) (nodes_after l k c.given q) (front_view h.list c.list h.state.tally.lines stored (J.roomy h c q));
          }

  goes : (c : Call) → Grown (address_of c) h (step h c)
  goes (lower c) = lowers c
  goes (join c) = joins c

-- ---- any list of calls

all_remember : (cs : List Call) (h : Held) → words_for h.state.tally.lines ≤ length h.list → addresses_in (run h cs) ≡ addresses_in h ++ addresses_by h cs
unfolding run addresses_by
all_remember [] h stored = sym (append-nil (addresses_in h))
all_remember (c ∷ cs) h stored =
    let g = goes h stored c in
    all_remember cs (step h c) g.stored ∙ ap (λ (r : List (Option ℕ)). r ++ addresses_by (step h c) cs) g.addresses ∙ append_assoc (addresses_in h) _ _

pub lines_remember : LinesRemember
lines_remember start calls accepted = all_remember calls start (stored start accepted)
