-- The lines of a list, as far as the words reach, by the tests of a lookup. Assumes nothing.
use Rattle.std.proofs.Common.{◌≡◌, ℕ, ◌<◌, ◌≤◌, min, List, length, sym, ap, ◌∙◌, arith, le-ltb, lt-ltb, Some, None}
use native.Mathlib.Decide.{dec_le}
use lib.ListN.{get_or-eq_default}
use Rattle.btor2_list.specs.declared.Line.{Line}
use Rattle.btor2_list.specs.Record.{record_at, get_at, field_at, capacity, first_lines}
use Rattle.btor2_list.specs.Node.{Node, no_node, node_of}
use Rattle.btor2_list.specs.View.{view}
use Rattle.btor2_list.proofs.View.{view-length, view_at, cut_view, cut_capacity}
use Rattle.line_text.specs.Line.{nodes, node_at, nid_at}

nid : {m n : Node} → m ≡ n → m.nid ≡ n.nid
nid e = ap (λ (x : Node). x.nid) e

module _ (ws : List ℕ) (n p : ℕ) where
  pub length-nodes : length (nodes ws n) ≡ min n (capacity (length ws))
  length-nodes = view-length ws _

  inside : p < n → p < capacity (length ws) → node_at (nodes ws n) p ≡ node_of (record_at ws p)
  inside h k = view_at ws _ _ p (omega arith)

  outside : length (nodes ws n) ≤ p → node_at (nodes ws n) p ≡ no_node
  outside h = get_or-eq_default (nodes ws n) no_node h

  pub nid_outside : length (nodes ws n) ≤ p → nid_at (nodes ws n) p ≡ 0
  nid_outside h = nid (outside h)

  -- the identifier that the record at a place has, or 0
  pub nid_held : p < n → field_at (λ (l : Line). l.nid.0) ws p ≡ nid_at (nodes ws n) p
  nid_held h = go (dec_le (capacity (length ws)) p)
    where
      go : Dec (capacity (length ws) ≤ p) → field_at (λ (l : Line). l.nid.0) ws p ≡ nid_at (nodes ws n) p
      go (yes k) = rw (le-ltb p (capacity (length ws)) k) (sym (nid_outside (omega (arith, length-nodes))))
      go (no k) = let m : p < capacity (length ws) = omega arith in rw (lt-ltb p (capacity (length ws)) m) (sym (nid (inside h m)))

  -- ---- the record at a place, by what getting it tells

  pub got : (l : Line) → Some l ≡ get_at ws p → p < n → node_at (nodes ws n) p ≡ node_of l
  got l e h = go (dec_le (capacity (length ws)) p)
    where
      go : Dec (capacity (length ws) ≤ p) → node_at (nodes ws n) p ≡ node_of l
      go (yes k) = let o : Some l ≡ None = e ∙ rw (le-ltb p (capacity (length ws)) k) in let z : ◌≡◌ {A = ℕ} 0 1 = cc in absurd (omega arith)
      go (no k) =
          let m : p < capacity (length ws) = omega arith in
          let o : Some l ≡ Some (record_at ws p) = e ∙ rw (lt-ltb p (capacity (length ws)) m) in
          let i : l ≡ record_at ws p = cc in inside h m ∙ ap node_of (sym i)

  pub not_got : None ≡ get_at ws p → length (nodes ws n) ≤ p
  not_got e = go (dec_le (capacity (length ws)) p)
    where
      go : Dec (capacity (length ws) ≤ p) → length (nodes ws n) ≤ p
      go (yes k) = omega (arith, length-nodes)
      go (no k) =
          let m : p < capacity (length ws) = omega arith in
          let o : None ≡ Some (record_at ws p) = e ∙ rw (lt-ltb p (capacity (length ws)) m) in
          let z : ◌≡◌ {A = ℕ} 0 1 = cc in absurd (omega arith)

-- ---- in words that the list fills

module _ (ws : List ℕ) (p : ℕ) where
  pub nid_all : field_at (λ (l : Line). l.nid.0) ws p ≡ nid_at (nodes ws (capacity (length ws))) p
  nid_all = go (dec_le (capacity (length ws)) p)
    where
      go : Dec (capacity (length ws) ≤ p) → field_at (λ (l : Line). l.nid.0) ws p ≡ nid_at (nodes ws (capacity (length ws))) p
      go (yes k) = rw (le-ltb p (capacity (length ws)) k) (sym (nid_outside ws (capacity (length ws)) p (omega (arith, length-nodes ws (capacity (length ws)) p))))
      go (no k) = nid_held ws (capacity (length ws)) p (omega arith)

  pub all_got : (l : Line) → Some l ≡ get_at ws p → node_at (nodes ws (capacity (length ws))) p ≡ node_of l
  all_got l e = go (dec_le (capacity (length ws)) p)
    where
      go : Dec (capacity (length ws) ≤ p) → node_at (nodes ws (capacity (length ws))) p ≡ node_of l
      go (yes k) = let o : Some l ≡ None = e ∙ rw (le-ltb p (capacity (length ws)) k) in let z : ◌≡◌ {A = ℕ} 0 1 = cc in absurd (omega arith)
      go (no k) = got ws (capacity (length ws)) p l e (omega arith)

-- a list that is cut to its n lines
pub cut_nodes : (ws : List ℕ) (n : ℕ) → nodes (first_lines ws n) (capacity (length (first_lines ws n))) ≡ nodes ws n
cut_nodes ws n =
    let m = min n (capacity (length ws)) in
    let h : m ≤ capacity (length ws) = omega arith in
    let c = cut_capacity ws m h in
    let same : min (capacity (length (first_lines ws n))) (capacity (length (first_lines ws n))) ≡ m = rw c (omega arith) in
    ap (view (first_lines ws n)) same ∙ cut_view ws m h
