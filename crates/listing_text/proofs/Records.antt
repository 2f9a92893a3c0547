-- A loop over the first records of some words. Assumes nothing.
use Rattle.std.proofs.Common.{◌≡◌, ℕ, zero, suc, ◌+◌, ◌-◌, ◌*◌, ◌/◌, ◌<◌, ◌≤◌, List, [], ◌++◌, length, get_or, drop, sym, refl, ap, ◌∙◌, arith, add-one, append-nil, length-append, length-drop, lt-ltb, le-ltb}
use Rattle.std.specs.Prelude.{Option, Some, None}
use Rattle.std.specs.Iterator.Adapters.{take_source, take_count, take_steps}
use Rattle.std.specs.Slice.Iter.{chunks_exact_rest, chunks_exact_size, chunks_exact_steps}
use Rattle.std.specs.declared.iter.Take.{Take}
use Rattle.std.specs.declared.slice.ChunksExact.{ChunksExact}
use Rattle.std.proofs.Math.ListN.{get_or-append}
use Rattle.std.proofs.Math.Nat.{le-div_iff_mul-le, div-lt_iff_lt-mul}
use Rattle.std.proofs.Math.Seq.{drop-append_seam}
use native.Mathlib.Decide.{dec_le}
use native.Mathlib.Nat.{add-zero, add-suc, suc-mul}
use Rattle.btor2_list.specs.Node.{Node}
use Rattle.edges.specs.Edges.{edge_stride, dispatch_stride}
use Rattle.listing_text.specs.Remarks.{edge_text, edge_text_at, edges_text, dispatch_text, dispatch_text_at, dispatches_text}
use denote.Ref.{Bor}
use lib.Seq.{drop-drop, get_or-drop}

-- after n records of so many words each, of `count` at most
pub record Passed (stride count : ℕ) (words : List ℕ) (n : ℕ) (it : Take (ChunksExact ℕ)) : Type 0 where
  pub size : chunks_exact_size (take_source it) ≡ stride
  pub left : n + take_count it ≡ count
  pub rest : chunks_exact_rest (take_source it) ≡ drop (n * stride) words

-- the next record is there
pub record Next (stride count : ℕ) (words : List ℕ) (n : ℕ) (read : List ℕ) (it : Take (ChunksExact ℕ)) : Type 0 where
  pub passed : Passed stride count words (n + 1) it
  pub there : n < length words / stride
  pub at : (j : ℕ) → j < stride → get_or read j 0 ≡ get_or words (n * stride + j) 0

abbrev Steps : Take (ChunksExact ℕ) → Option (Bor (List ℕ)) → Take (ChunksExact ℕ) → Type 0
Steps = take_steps chunks_exact_steps

module _ {stride count : ℕ} {words : List ℕ} {n : ℕ} {it : Take (ChunksExact ℕ)} (some : 0 < stride) (p : Passed stride count words n it) where
  wider : (n + 1) * stride ≡ n * stride + stride
  wider = rw add-one (suc-mul n stride)

  pub next : (x : Bor (List ℕ)) (it' : Take (ChunksExact ℕ)) → Steps it (Some x) it' → Next stride count words n x.now it'
  next x it' s =
      let long : length x.now ≡ stride = s.0.1.1 ∙ p.size in
      let split : drop (n * stride) words ≡ x.now ++ chunks_exact_rest (take_source it') = sym p.rest ∙ s.0.1.0 in
      let after : drop ((n + 1) * stride) words ≡ chunks_exact_rest (take_source it') =
      ap (λ (k : ℕ). drop k words) wider ∙ sym (drop-drop stride (n * stride) words) ∙ ap (drop stride) split ∙ rw (sym long) (drop-append_seam x.now _) in
      let enough : n * stride + stride ≤ length words = omega (arith, ap length split, length-append x.now (chunks_exact_rest (take_source it')), length-drop (n * stride) words) in
      record {
        passed = record { size = s.0.0 ∙ p.size; left = omega (arith, p.left, s.1); rest = sym after };
        there = omega (arith, (le-div_iff_mul-le {k = stride} {x = n + 1} {y = length words} some).1 (rw wider enough));
        at = λ j h. sym (get_or-append x.now (chunks_exact_rest (take_source it')) 0 j (rw long h)) ∙ ap (λ (l : List ℕ). get_or l j 0) (sym split) ∙ get_or-drop (n * stride) words j 0;
      }

  pub last : (it' : Take (ChunksExact ℕ)) → Steps it None it' → (n ≤ count) × (n < count → length words / stride ≤ n)
  last it' s = (
    omega (arith, p.left),
    λ h.
        let few : length (chunks_exact_rest (take_source it)) < stride = rw p.size at (s (omega (arith, p.left))).1.0 in
        let short : length words < (n + 1) * stride = rw wider (omega (arith, few, ap length p.rest, length-drop (n * stride) words)) in
        omega (arith, (div-lt_iff_lt-mul {k = stride} {x = length words} {y = n + 1} some).1 short),
  )

-- texts of records one after the other, of which those past the words are empty
module _ (text : ℕ → List ℕ) (all : ℕ → List ℕ) (more : (n : ℕ) → all (suc n) ≡ all n ++ text n) (bound : ℕ) (none : (n : ℕ) → bound ≤ n → text n ≡ []) where
  past : (n j : ℕ) → bound ≤ n → all (n + j) ≡ all n
  past n zero h = ap all (add-zero n)
  past n (suc j) h = ap all (add-suc n j) ∙ more (n + j) ∙ ap (λ (t : List ℕ). all (n + j) ++ t) (none (n + j) (omega arith)) ∙ append-nil _ ∙ past n j h

  pub all_passed : (n count : ℕ) → n ≤ count → (n < count → bound ≤ n) → all n ≡ all count
  all_passed n count h k = go (dec_le count n)
    where
      go : Dec (count ≤ n) → all n ≡ all count
      go (yes l) = let same : n ≡ count = omega arith in ap all same
      go (no l) = let e : n + (count - n) ≡ count = omega arith in sym (past n (count - n) (k (omega arith))) ∙ ap all e

module _ (ns : List Node) (words : List ℕ) where
  pub edges_more : (n : ℕ) (r : List ℕ) → n < length words / edge_stride → ((j : ℕ) → j < edge_stride → get_or r j 0 ≡ get_or words (n * edge_stride + j) 0)
      → edges_text ns words n ++ edge_text ns (get_or r 0 0) (get_or r 1 0) (get_or r 2 0) (get_or r 3 0) ≡ edges_text ns words (n + 1)
  unfolding edges_text edge_text_at
  edges_more n r h at =
      let first : get_or r 0 0 ≡ get_or words (n * edge_stride) 0 = at 0 (omega arith) ∙ ap (λ (k : ℕ). get_or words k 0) (add-zero _) in
      rw (add-one, lt-ltb n (length words / edge_stride) h, first, at 1 (omega arith), at 2 (omega arith), at 3 (omega arith))

  pub edges_all : (n count : ℕ) → n ≤ count → (n < count → length words / edge_stride ≤ n) → edges_text ns words n ≡ edges_text ns words count
  unfolding edges_text edge_text_at
  edges_all = all_passed (edge_text_at ns words) (edges_text ns words) (λ n. refl) (length words / edge_stride) (λ n h. rw (le-ltb n (length words / edge_stride) h))

module _ (words : List ℕ) where
  pub dispatches_more : (n : ℕ) (r : List ℕ) → n < length words / dispatch_stride → ((j : ℕ) → j < dispatch_stride → get_or r j 0 ≡ get_or words (n * dispatch_stride + j) 0)
      → dispatches_text words n ++ dispatch_text (get_or r 0 0) (get_or r 1 0) ≡ dispatches_text words (n + 1)
  unfolding dispatches_text dispatch_text_at
  dispatches_more n r h at =
      let first : get_or r 0 0 ≡ get_or words (n * dispatch_stride) 0 = at 0 (omega arith) ∙ ap (λ (k : ℕ). get_or words k 0) (add-zero _) in
      rw (add-one, lt-ltb n (length words / dispatch_stride) h, first, at 1 (omega arith))

  pub dispatches_all : (n count : ℕ) → n ≤ count → (n < count → length words / dispatch_stride ≤ n) → dispatches_text words n ≡ dispatches_text words count
  unfolding dispatches_text dispatch_text_at
  dispatches_all = all_passed (dispatch_text_at words) (dispatches_text words) (λ n. refl) (length words / dispatch_stride) (λ n h. rw (le-ltb n (length words / dispatch_stride) h))
