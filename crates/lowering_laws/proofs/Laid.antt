-- A program that has room puts its lines after those that stand, one after the other, and changes nothing else. One induction, for every
-- program. Assumes nothing.
use Rattle.std.specs.Prelude.{Option}
use Prim.Native.Nat.{ℕ, suc, ◌+◌, ◌^◌, ◌≤◌, ◌<◌}
use mathlib.Core.Path.{◌≡◌, refl, sym, ◌∙◌, ap, subst}
use mathlib.Core.Bool.{Bool, true, false, cond, ◌&&◌, true≢false}
use mathlib.Core.List.{List, [], ◌∷◌, ◌++◌, append_assoc, append-nil}
use native.Mathlib.Omega.{arith}
use native.Mathlib.Nat.{mod-eq_of_lt}
use borrow.Author.Tests.{lt-ltb}
use lib.ListN.{length, get_or}
use Rattle.btor2.specs.Op.{Op, has_init, identifiers}
use Rattle.btor2_list.specs.Record.{holds, put_at, capacity, words_for}
use Rattle.btor2_list.specs.Node.{Node, node, line_of}
use Rattle.btor2_list.specs.View.{view}
use Rattle.btor2_list.proofs.Stored.{put_length, put_elsewhere_below, put_elsewhere_above}
use Rattle.btor2_list.proofs.View.{node_back, view_put}
use Rattle.btor2_list.proofs.Fitting.{area_fits, line_fits}
use Rattle.builder.specs.Prog.{Prog, done, line, Run, ran, exec}
use Rattle.builder.specs.declared.Tally.{Tally}
use Rattle.builder.specs.Append.{Store, at, append_line, append_for}
use Rattle.builder.specs.Lines.{lines_of, place_after}
use Rattle.builder.proofs.Result.{result_of}
use Rattle.lowering_laws.specs.Lines.{taking, numbered}
use Rattle.lowering_laws.proofs.Growth.{fitting}

-- the lent words hold m more lines, and the d identifiers that these take fit the record
pub record RoomForLines (ws : List ℕ) (t : Tally) (m d : ℕ) : Type 0 where
  pub lines : t.lines + m ≤ capacity (length ws)
  pub nids : t.nid + d < 2 ^ 32

at_most_two : (b : Bool) → cond b 2 1 ≤ 2
at_most_two true = omega arith
at_most_two false = omega arith

-- lines take at most two each
pub taking_most : (os : List (Op ℕ)) → taking os ≤ length os + length os
unfolding taking
taking_most [] = omega arith
taking_most (o ∷ os) = omega (arith, at_most_two (has_init o), taking_most os)

-- what a run of the program p from ws and t has done, m being how many lines p has from the k-th on after n others, each with the address or none
pub record Laid {X : Type 0} (w : Option ℕ) (n k m : ℕ) (ws : List ℕ) (t : Tally) (p : Prog ℕ X) (r : Run Store X) : Type 0 where
  pub value : r.value ≡ result_of (place_after n) k p
  pub nodes : view r.state.words r.state.tally.lines ≡ view ws t.lines ++ numbered w t.nid (lines_of (place_after n) k p)
  pub lines : r.state.tally.lines ≡ t.lines + m
  pub nids : r.state.tally.nid ≡ t.nid + taking (lines_of (place_after n) k p)
  pub size : length r.state.words ≡ length ws
  pub below : (j : ℕ) → j < words_for t.lines → get_or r.state.words j 0 ≡ get_or ws j 0
  pub above : (j : ℕ) → words_for (t.lines + m) ≤ j → get_or r.state.words j 0 ≡ get_or ws j 0

abbrev next : Tally → Op ℕ → Tally
next t o = record { lines = t.lines + 1; nid = t.nid + identifiers o }

abbrev put : Option ℕ → List ℕ → Tally → Op ℕ → List ℕ
put w ws t o = put_at ws t.lines (line_of w t.nid o)

and_both : (a b : Bool) → (a && b) ≡ true → (a ≡ true) × (b ≡ true)
and_both true b e = (refl, e)
and_both false b e = absurd (true≢false (sym e))

there : (ws : List ℕ) (t : Tally) (m d : ℕ) → RoomForLines ws t (suc m) d → holds ws t.lines ≡ true
there ws t m d r = lt-ltb t.lines (capacity (length ws)) (omega (arith, r.lines))

append_room : (w : Option ℕ) (ws : List ℕ) (t : Tally) (o : Op ℕ) (m d : ℕ) → RoomForLines ws t (suc m) (identifiers o + d) → append_for w (at ws t) o ≡ ran (at (put w ws t o) (next t o)) t.lines
unfolding append_line
append_room w ws t o m d r = rw (there ws t m _ r, ap (λ (x : Node). identifiers x.op) (node_back w t.nid o), mod-eq_of_lt {n = t.nid + identifiers o} {m = 2 ^ 64} (omega (arith, r.nids)))

room_next : (w : Option ℕ) (ws : List ℕ) (t : Tally) (o : Op ℕ) (m d : ℕ) → RoomForLines ws t (suc m) (identifiers o + d) → RoomForLines (put w ws t o) (next t o) m d
room_next w ws t o m d r = record {
  lines = rw (put_length ws t.lines (line_of w t.nid o)) (omega (arith, r.lines));
  nids = omega (arith, r.nids);
}

pub laid : {X : Type 0} (w : Option ℕ) (p : Prog ℕ X) (n k : ℕ) (ws : List ℕ) (t : Tally) → t.lines ≡ n + k → RoomForLines ws t (length (lines_of (place_after n) k p)) (taking (lines_of (place_after n) k p)) → fitting (lines_of (place_after n) k p) ≡ true
    → Laid w n k (length (lines_of (place_after n) k p)) ws t p (exec (append_for w) (at ws t) p)
unfolding lines_of result_of numbered taking
laid w (done x) n k ws t e r fit = record {
  value = refl;
  nodes = sym (append-nil (view ws t.lines));
  lines = omega arith;
  nids = omega arith;
  size = refl;
  below = λ j h. refl;
  above = λ j h. refl;
}
laid {X} w (line o f) n k ws t e r fit =
    subst (λ (g : Run Store ℕ). Laid w n k (suc m) ws t (line o f) (exec (append_for w) g.state (f g.value)))
    (sym (append_room w ws t o m d r ∙ ap (λ j. ran (at (put w ws t o) (next t o)) j) e))
    (go (laid w (f (n + k)) n (k + 1) (put w ws t o) (next t o) (omega arith) (room_next w ws t o m d r) both.1))
  where
    m : ℕ
    m = length (lines_of (place_after n) (k + 1) (f (n + k)))

    d : ℕ
    d = taking (lines_of (place_after n) (k + 1) (f (n + k)))

    both : (area_fits o ≡ true) × (fitting (lines_of (place_after n) (k + 1) (f (n + k))) ≡ true)
    both = and_both (area_fits o) _ fit

    placed : view (put w ws t o) (t.lines + 1) ≡ view ws t.lines ++ (node w t.nid o ∷ [])
    placed = view_put ws t.lines (line_of w t.nid o) (there ws t m _ r) (line_fits w t.nid (omega (arith, r.nids)) o both.0) ∙ ap (λ (x : Node). view ws t.lines ++ (x ∷ [])) (node_back w t.nid o)

    go : {g : Run Store X} → Laid w n (k + 1) m (put w ws t o) (next t o) (f (n + k)) g → Laid w n k (suc m) ws t (line o f) g
    go h = record {
      value = h.value;
      nodes = h.nodes ∙ ap (λ l. l ++ numbered w (t.nid + identifiers o) (lines_of (place_after n) (k + 1) (f (n + k)))) placed ∙ append_assoc (view ws t.lines) _ _;
      lines = omega (arith, h.lines);
      nids = omega (arith, h.nids);
      size = h.size ∙ put_length ws t.lines (line_of w t.nid o);
      below = λ j l. h.below j (omega arith) ∙ put_elsewhere_below ws t.lines (line_of w t.nid o) j l;
      above = λ j l. h.above j (omega arith) ∙ put_elsewhere_above ws t.lines (line_of w t.nid o) j (omega arith);
    }
