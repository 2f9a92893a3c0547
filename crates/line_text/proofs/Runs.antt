-- A run is its first line and the run after it. Assumes nothing.
use Rattle.std.proofs.Common.{◌≡◌, ℕ, zero, suc, ◌+◌, ◌-◌, ◌<◌, ◌≤◌, List, [], ◌++◌, length, sym, ap, ◌∙◌, append_assoc, append-nil, add-one, arith, drop_of_length-le, drop-cons}
use native.Mathlib.Decide.{dec_le}
use lib.ListN.{get_or-eq_default}
use lib.Seq.{take-nil}
use Rattle.btor2.specs.Op.{map_op}
use Rattle.btor2_list.specs.Node.{Node, no_node}
use Rattle.line_text.specs.Record.{line_text}
use Rattle.line_text.specs.Line.{node_at, node_text, nodes_text, run_text}

module _ (host ours : List ℕ) (ns : List Node) where
  -- past the end there is nothing
  pub run_past : (p n : ℕ) → length ns ≤ p → run_text host ours ns p n ≡ []
  unfolding nodes_text
  run_past p n h = rw (drop_of_length-le ns h, take-nil {A = Node} n)

  pub line_past : (p : ℕ) → length ns ≤ p → node_text host ours ns (node_at ns p) ≡ []
  unfolding line_text map_op
  line_past p h = rw (get_or-eq_default ns no_node h)

  pub run_none : (p n : ℕ) → n ≡ 0 → run_text host ours ns p n ≡ []
  unfolding nodes_text
  run_none p n e = rw e

  run_in : (p n : ℕ) → p < length ns → run_text host ours ns p (suc n) ≡ node_text host ours ns (node_at ns p) ++ run_text host ours ns (suc p) n
  unfolding nodes_text
  run_in p n h = rw (drop-cons ns p no_node h)

  run_suc : (p n : ℕ) → run_text host ours ns p (suc n) ≡ node_text host ours ns (node_at ns p) ++ run_text host ours ns (suc p) n
  run_suc p n = go (dec_le (length ns) p)
    where
      go : Dec (length ns ≤ p) → run_text host ours ns p (suc n) ≡ node_text host ours ns (node_at ns p) ++ run_text host ours ns (suc p) n
      go (yes h) = run_past p (suc n) h ∙ sym (ap (λ (t : List ℕ). t ++ run_text host ours ns (suc p) n) (line_past p h) ∙ run_past (suc p) n (omega arith))
      go (no h) = run_in p n (omega arith)

  pub run_on : (p n : ℕ) → 0 < n → run_text host ours ns p n ≡ node_text host ours ns (node_at ns p) ++ run_text host ours ns (p + 1) (n - 1)
  run_on p zero h = absurd (omega arith)
  run_on p (suc n) h = let e : suc n - 1 ≡ n = omega arith in rw (add-one p, e) (run_suc p n)

  -- what is put, with the run that is left, is the whole: one line on, and at the end
  pub run_further : (s t whole : List ℕ) (p n : ℕ) → 0 < n → node_text host ours ns (node_at ns p) ≡ t → s ++ run_text host ours ns p n ≡ whole
      → s ++ t ++ run_text host ours ns (p + 1) (n - 1) ≡ whole
  run_further s t whole p n h e w = append_assoc s t _ ∙ ap (λ (r : List ℕ). s ++ r) (ap (λ (r : List ℕ). r ++ run_text host ours ns (p + 1) (n - 1)) (sym e) ∙ sym (run_on p n h)) ∙ w

  pub run_ended : (s whole : List ℕ) (p n : ℕ) → (p < length ns → n ≡ 0) → s ++ run_text host ours ns p n ≡ whole → s ≡ whole
  run_ended s whole p n h w = sym (append-nil s) ∙ ap (λ (r : List ℕ). s ++ r) (sym (nothing_left (dec_le (length ns) p))) ∙ w
    where
      nothing_left : Dec (length ns ≤ p) → run_text host ours ns p n ≡ []
      nothing_left (yes l) = run_past p n l
      nothing_left (no l) = run_none p n (h (omega arith))
