-- One identifier after the other, one line after the other. Assumes nothing.
use Rattle.std.specs.Prelude.{Some, None}
use Prim.Native.Nat.{ℕ, ◌+◌, ◌≤◌, ◌<◌}
use mathlib.Core.Path.{◌≡◌, refl, sym, ◌∙◌, ap}
use mathlib.Core.Bool.{Bool, true, false, cond, not, ◌&&◌, ◌||◌, or-true, true≢false, false≢true}
use mathlib.Core.List.{List, ◌∷◌, ◌++◌}
use native.Mathlib.Numerals.{add-one}
use native.Mathlib.Omega.{arith}
use borrow.Author.Tests.{lt-ltb, le-ltb, le-leb, lt-leb}
use lib.Dec.{leb, ltb, eqb}
use lib.ListN.{length, drop, drop_of_length-le}
use lib.Seq.{drop-cons}
use Rattle.bitvec.proofs.Base.{by_le}
use Rattle.btor2.specs.Op.{has_init}
use Rattle.btor2_list.specs.Record.{record_at}
use Rattle.btor2_list.specs.Node.{Node, no_node, node_of}
use Rattle.btor2_list.specs.View.{view}
use Rattle.btor2_list.proofs.View.{view-length, view_at}
use Rattle.list_check.specs.Lines.{any}
use Rattle.nid_check.specs.Identifiers.{onwards, taken_by, taken, rising, reserved}
use Rattle.nid_check.specs.Inside.{nid_out, rise_of}

-- the identifiers after `last` break the rule
abbrev pub out_from : ℕ → ℕ → List ℕ → Bool
out_from next last ts = not (rising last ts) || (any reserved ts || (leb next 17 || any (leb next) ts))

below_not : (a b : ℕ) → ltb a b ≡ not (leb b a)
below_not a b = by_le b a (λ h. rw (le-ltb a b h, le-leb b a h)) (λ h. rw (lt-ltb a b h, lt-leb b a h))

-- ---- one identifier; a, r, x: it is not above the last, is reserved, is not below the next

some_out : (a r x rest res low above : Bool) → (a || (r || x)) ≡ true → (not (not a && rest) || ((r || res) || (low || (x || above)))) ≡ true
some_out true r x rest res low above e = refl
some_out false true x rest res low above e = or-true (not rest)
some_out false false true rest res low above e = rw (or-true low, or-true res) (or-true (not rest))
some_out false false false rest res low above e = absurd (false≢true e)

none_out : (a r x rest res low above : Bool) → (a || (r || x)) ≡ false
    → (not (not a && rest) || ((r || res) || (low || (x || above)))) ≡ (not rest || (res || (low || above)))
none_out true r x rest res low above e = absurd (true≢false e)
none_out false true x rest res low above e = absurd (true≢false e)
none_out false false true rest res low above e = absurd (true≢false e)
none_out false false false rest res low above e = refl

module _ (next last t : ℕ) (ts : List ℕ) where
  nid_hit : nid_out next last t ≡ true → out_from next last (t ∷ ts) ≡ true
  unfolding rising
  nid_hit e = rw (below_not last t) (some_out (leb t last) (reserved t) (leb next t) (rising t ts) (any reserved ts) (leb next 17) (any (leb next) ts) e)

  nid_on : nid_out next last t ≡ false → out_from next last (t ∷ ts) ≡ out_from next t ts
  unfolding rising
  nid_on e = rw (below_not last t) (none_out (leb t last) (reserved t) (leb next t) (rising t ts) (any reserved ts) (leb next 17) (any (leb next) ts) e)

-- ---- one line

module _ (next last : ℕ) (x : Node) (us : List ℕ) where
  line_on : (t : ℕ) → rise_of next last x ≡ Some t → out_from next last (taken_by x ++ us) ≡ out_from next t us
  line_on t = go (nid_out next last x.nid) (has_init x.op) (nid_out next x.nid (x.nid + 1)) refl refl
    where
      go : (a h b : Bool) → nid_out next last x.nid ≡ a → nid_out next x.nid (x.nid + 1) ≡ b
          → cond a None (cond (eqb (cond h 2 1) 1) (Some x.nid) (cond b None (Some (x.nid + 1)))) ≡ Some t
          → out_from next last (onwards x.nid (cond h 2 1) ++ us) ≡ out_from next t us
      go true h b e f r = let z : ◌≡◌ {A = ℕ} 0 1 = cc in absurd (omega arith)
      go false true true e f r = let z : ◌≡◌ {A = ℕ} 0 1 = cc in absurd (omega arith)
      go false true false e f r =
          let same : x.nid + 1 ≡ t = cc in
          nid_on next last x.nid ((x.nid + 1) ∷ us) e ∙ nid_on next x.nid (x.nid + 1) us f ∙ ap (λ (k : ℕ). out_from next k us) same
      go false false b e f r = let same : x.nid ≡ t = cc in nid_on next last x.nid us e ∙ ap (λ (k : ℕ). out_from next k us) same

  line_hit : rise_of next last x ≡ None → out_from next last (taken_by x ++ us) ≡ true
  line_hit = go (nid_out next last x.nid) (has_init x.op) (nid_out next x.nid (x.nid + 1)) refl refl
    where
      go : (a h b : Bool) → nid_out next last x.nid ≡ a → nid_out next x.nid (x.nid + 1) ≡ b
          → cond a None (cond (eqb (cond h 2 1) 1) (Some x.nid) (cond b None (Some (x.nid + 1)))) ≡ None
          → out_from next last (onwards x.nid (cond h 2 1) ++ us) ≡ true
      go true true b e f r = nid_hit next last x.nid ((x.nid + 1) ∷ us) e
      go true false b e f r = nid_hit next last x.nid us e
      go false true true e f r = nid_on next last x.nid ((x.nid + 1) ∷ us) e ∙ nid_hit next x.nid (x.nid + 1) us f
      go false true false e f r = let z : ◌≡◌ {A = ℕ} 0 1 = cc in absurd (omega arith)
      go false false b e f r = let z : ◌≡◌ {A = ℕ} 0 1 = cc in absurd (omega arith)

-- ---- the lines of the words from line i on

module _ (ws : List ℕ) (n next last i : ℕ) where
  rest : i < n → drop i (view ws n) ≡ node_of (record_at ws i) ∷ drop (i + 1) (view ws n)
  rest h =
      rw (add-one, ← view_at ws n no_node i h)
      (drop-cons (view ws n) i no_node (rw (view-length ws n) h))

  pub rise_on : i < n → (t : ℕ) → rise_of next last (node_of (record_at ws i)) ≡ Some t
      → out_from next t (taken (drop (i + 1) (view ws n))) ≡ out_from next last (taken (drop i (view ws n)))
  unfolding taken
  rise_on h t e = rw (rest h) (sym (line_on next last (node_of (record_at ws i)) (taken (drop (i + 1) (view ws n))) t e))

  pub rise_hit : i < n → rise_of next last (node_of (record_at ws i)) ≡ None → out_from next last (taken (drop i (view ws n))) ≡ true
  unfolding taken
  rise_hit h e = rw (rest h) (line_hit next last (node_of (record_at ws i)) (taken (drop (i + 1) (view ws n))) e)

  pub rise_end : n ≤ i → 17 < next → out_from next last (taken (drop i (view ws n))) ≡ false
  unfolding taken rising
  rise_end h l =
      let past : length (view ws n) ≤ i = rw (view-length ws n) h in
      rw (drop_of_length-le (view ws n) past, lt-leb next 17 l)

pub next_low : (next last : ℕ) (ts : List ℕ) → next ≤ 17 → out_from next last ts ≡ true
next_low next last ts h = rw (le-leb next 17 h, or-true (any reserved ts)) (or-true (not (rising last ts)))
