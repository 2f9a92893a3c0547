-- A join of the words that records were put into is the join of the records' own words. Assumes nothing.
use Prim.Native.Nat.{ℕ, ◌/◌, ◌≤◌}
use mathlib.Core.Path.{◌≡◌, refl, ap}
use mathlib.Core.Bool.{true, false}
use mathlib.Core.List.{List}
use native.Mathlib.Omega.{arith}
use borrow.Author.Tests.{ltb-false}
use lib.Dec.{ltb}
use lib.ListN.{length, take}
use lib.Seq.{sets, length-sets}
use Rattle.bitvec.proofs.Truth.{neither}
use Rattle.edges.specs.Edges.{edge_stride}
use Rattle.join.specs.declared.Asked.{Asked}
use Rattle.std.proofs.Common.{Result, Ok, Err}
use Rattle.refusals.specs.declared.Refusal.{Refusal}
use Rattle.join.specs.Code.{join_answered}
use Rattle.join.specs.declared.Joined.{Joined}
use Rattle.join.specs.declared.JoinHeld.{JoinHeld}
use Rattle.join.specs.Given.{edges_in}
use Rattle.join.specs.Refusal.{JoinLent, JoinInput, join_input, join_program, flags_out, join_line_count, join_room_out, join_refusal}
use Rattle.join.specs.Join.{JoinAnswer, join_refused, join_settled, joining}
use Rattle.edges.specs.declared.InEdge.{InEdge}
use Rattle.edges.specs.InEdges.{edge_words}
use Rattle.edges.proofs.InEdges.{records}
use Rattle.join_entry.specs.Records.{with_words, edges_over, joining_records}
use Rattle.join_entry.proofs.Words.{same_edges}

module _ (l : JoinLent) (h : JoinHeld) (dispatches flags dynamics : List ℕ) (a : Asked) where
  abbrev n : ℕ
  n = a.edges

  abbrev of : List ℕ → JoinInput
  of ws = join_input ws dispatches flags dynamics a

  -- words for the edges that are asked for
  abbrev Enough : List ℕ → Type 0
  Enough ws = ltb (length ws / edge_stride) n ≡ false

  -- of the words of its edges a join looks at the first edges, and whether there are so many
  same_join : (ws ws' : List ℕ) → edges_in n ws ≡ edges_in n ws' → Enough ws → Enough ws' → joining l h (of ws) ≡ joining l h (of ws')
  unfolding joining join_settled join_refusal flags_out join_room_out join_line_count join_program
  same_join ws ws' e enough enough' = rw (e, enough, enough')

  -- of what a join is given, its answer in code looks at what is asked alone
  pub same_answer : (ws ws' : List ℕ) (r : Result Joined Refusal) (l' : JoinLent) → join_answered h (of ws) r l' ≡ join_answered h (of ws') r l'
  same_answer ws ws' (Ok j) l' = refl
  same_answer ws ws' (Err e) l' = refl

  module _ (es : List InEdge) (ws : List ℕ) where
    pub too_many : edges_over (length es) (length ws) a ≡ true → with_words (join_refused 9 l h (of (edge_words es))) ws ≡ joining_records l h es ws dispatches flags dynamics a
    unfolding joining_records
    too_many e = rw e

    -- the words after the records that are asked for are put
    abbrev put : List ℕ
    put = sets ws 0 (edge_words (take n es))

    pub joins : edges_over (length es) (length ws) a ≡ false → with_words (joining l h (of put)) put ≡ joining_records l h es ws dispatches flags dynamics a
    unfolding joining_records
    joins e =
        let both = neither (ltb (length es) n) (ltb (length ws / edge_stride) n) e in
        let held : n ≤ length ws / edge_stride = ltb-false (length ws / edge_stride) n both.1 in
        rw e
        (ap (λ (x : JoinAnswer). with_words x put)
        (same_join put (edge_words es) (same_edges n es ws (ltb-false (length es) n both.0) (omega arith)) (rw length-sets both.1) (rw records both.0)))
