-- The room that edges leave, one after the other. Assumes nothing.
use Prim.Native.Nat.{ℕ, ◌+◌, ◌-◌}
use mathlib.Core.Path.{◌≡◌, refl, sym}
use mathlib.Core.Bool.{Bool, true, false, ◌||◌, or_assoc, or-true, or-false}
use mathlib.Core.List.{List, [], ◌∷◌}
use native.Mathlib.Nat.{add_assoc, zero-add}
use native.Mathlib.Omega.{arith}
use borrow.Author.Tests.{lt-ltb, le-ltb, ltb-true, ltb-false}
use Rattle.std.proofs.Common.{Some, None}
use lib.Dec.{ltb}
use lib.ListN.{length, length-append}
use Rattle.join.specs.Program.{Edge, edge_name, names_of, nexts_by, nexts_of}
use Rattle.join_calls.specs.declared.room.Left.{Left}
use Rattle.join_calls.specs.Room.{edge_lines, edges_lines, zero_after, zero_after_all, dispatch_lines, edge_exceeds, left_after, left_after_edge, exceeding}

-- a sum exceeds where its first part does, or where its second exceeds what the first leaves
pub ltb-add : (a b c : ℕ) → ltb a (b + c) ≡ (ltb a b || ltb (a - b) c)
ltb-add a b c = go (ltb a b) refl (ltb (a - b) c) refl
  where
    go : (s : Bool) → ltb a b ≡ s → (t : Bool) → ltb (a - b) c ≡ t → ltb a (b + c) ≡ (s || t)
    go true e t h = lt-ltb a (b + c) (omega (arith, ltb-true))
    go false e true h = lt-ltb a (b + c) (omega (arith, ltb-true, ltb-false))
    go false e false h = le-ltb a (b + c) (omega (arith, ltb-false))

or_swap : (a b c : Bool) → (a || (b || c)) ≡ (b || (a || c))
or_swap true b c = sym (or-true b)
or_swap false b c = refl

three : (a b c p q r u v w : ℕ)
    → (ltb a (b + c) || (ltb p (q + r) || ltb u (v + w))) ≡ ((ltb a b || (ltb p q || ltb u v)) || (ltb (a - b) c || (ltb (p - q) r || ltb (u - v) w)))
three a b c p q r u v w = rw (ltb-add a b c, ltb-add p q r, ltb-add u v w) (simp (or_assoc, or_swap))

module _ (f : ℕ → Bool) (l : Left) where
  pub exceeding_next : (x : Edge ℕ) (xs : List (Edge ℕ)) (n : ℕ)
      → exceeding f l (x ∷ xs) n ≡ (edge_exceeds l x.origin x.from || exceeding f (left_after l x.origin x.from (f x.from)) xs n)
  unfolding exceeding edges_lines zero_after_all names_of nexts_of
  exceeding_next x xs n =
      let own = edge_lines x.origin l.zero in
      let zero = zero_after x.origin l.zero (f x.from) in
      let text = edge_name x.origin x.from in
      rw (add_assoc own _ _, length-append text (names_of xs))
      (three l.lines own (edges_lines f zero xs + dispatch_lines (zero_after_all f zero xs) n) l.names (length text) (length (names_of xs)) l.sequentials (nexts_by x.origin) (nexts_of xs))

  pub exceeding_none : (n : ℕ) → exceeding f l [] n ≡ ltb l.lines (dispatch_lines l.zero n)
  unfolding exceeding edges_lines zero_after_all names_of nexts_of
  exceeding_none n = rw (zero-add, le-ltb l.names 0 (omega arith), le-ltb l.sequentials 0 (omega arith)) (or-false _)

  -- where there is no room for an edge, and where there is
  pub exceeded : (x : Edge ℕ) (xs : List (Edge ℕ)) (n : ℕ) → None ≡ left_after_edge l x.origin x.from (f x.from) → true ≡ exceeding f l (x ∷ xs) n
  exceeded x xs n e = rw (exceeding_next x xs n) (go (edge_exceeds l x.origin x.from) refl)
    where
      go : (b : Bool) → edge_exceeds l x.origin x.from ≡ b → true ≡ (edge_exceeds l x.origin x.from || exceeding f (left_after l x.origin x.from (f x.from)) xs n)
      go true h = rw h
      go false h = absurd (cc (rw h at e))

  pub left_over : (x : Edge ℕ) (xs : List (Edge ℕ)) (n : ℕ) {r : Left} → Some r ≡ left_after_edge l x.origin x.from (f x.from) → exceeding f r xs n ≡ exceeding f l (x ∷ xs) n
  left_over x xs n {r} e = rw (exceeding_next x xs n) (go (edge_exceeds l x.origin x.from) refl)
    where
      go : (b : Bool) → edge_exceeds l x.origin x.from ≡ b → exceeding f r xs n ≡ (edge_exceeds l x.origin x.from || exceeding f (left_after l x.origin x.from (f x.from)) xs n)
      go true h = absurd (cc (rw h at e))
      go false h = let same : Some r ≡ Some (left_after l x.origin x.from (f x.from)) = rw h at e in let is : r ≡ left_after l x.origin x.from (f x.from) = cc in rw (h, is)
