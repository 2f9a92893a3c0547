-- The words of records, put one record after the other, and read again as edges. Assumes nothing.
use Prim.Native.Nat.{ℕ, zero, suc, ◌+◌, ◌*◌, ◌≤◌, ◌<◌}
use mathlib.Core.Path.{◌≡◌, refl, ap}
use mathlib.Core.List.{List, [], ◌∷◌, ◌++◌}
use native.Mathlib.Numerals.{add-one}
use native.Mathlib.Omega.{arith}
use lib.ListN.{length, get_or, take, drop}
use lib.Seq.{sets, sets-eq, take-suc, length-take-le}
use Rattle.edges.specs.Edges.{edge_stride}
use Rattle.btor2_list.specs.Records.{records_in}
use Rattle.text.proofs.Laws.{sets-append}
use Rattle.join.specs.Program.{Edge}
use Rattle.join.specs.Given.{edges_in}
use Rattle.edges.specs.declared.InEdge.{InEdge}
use Rattle.edges.specs.InEdges.{edge_words}
use Rattle.edges.proofs.InEdges.{words, length-words}

words_append : (es fs : List InEdge) → edge_words (es ++ fs) ≡ edge_words es ++ edge_words fs
unfolding edge_words
words_append [] fs = refl
words_append (e ∷ es) fs = ap (λ (ws : List ℕ). e.to ∷ e.from ∷ e.origin ∷ e.condition.0 ∷ ws) (words_append es fs)

-- the words after none is put, and after one more is
pub put_none : (ws : List ℕ) (es : List InEdge) → ws ≡ sets ws 0 (edge_words (take 0 es))
unfolding edge_words
put_none ws es = refl

pub put_next : (ws : List ℕ) (es : List InEdge) (i : ℕ) (d : InEdge) → i < length es
    → sets (sets ws 0 (edge_words (take i es))) (i * edge_stride) (words (get_or es i d)) ≡ sets ws 0 (edge_words (take (i + 1) es))
unfolding edge_words
put_next ws es i d h =
    let count : 0 + length (edge_words (take i es)) ≡ i * edge_stride = omega (arith, length-words (take i es), length-take-le i es (omega arith)) in
    rw (add-one i, take-suc es i d h, words_append (take i es) (get_or es i d ∷ []), ← count) (sets-append (edge_words (take i es)) (words (get_or es i d)) ws 0)

-- the first edges in the words of records are those of the first records, whatever words follow these
front : (n : ℕ) (es : List InEdge) (rest : List ℕ) → n ≤ length es → edges_in n (edge_words (take n es) ++ rest) ≡ edges_in n (edge_words es)
unfolding records_in edge_words
front zero es rest h = refl
front (suc n) [] rest h = absurd (omega arith)
front (suc n) (e ∷ es) rest h = ap (λ (xs : List (Edge ℕ)). record { from = e.from; origin = e.origin; condition = e.condition.0 } ∷ xs) (front n es rest (omega arith))

pub same_edges : (n : ℕ) (es : List InEdge) (ws : List ℕ) → n ≤ length es → n * edge_stride ≤ length ws → edges_in n (sets ws 0 (edge_words (take n es))) ≡ edges_in n (edge_words es)
same_edges n es ws h room =
    let within : 0 + length (edge_words (take n es)) ≤ length ws = omega (arith, length-words (take n es), length-take-le n es h) in
    rw (sets-eq (edge_words (take n es)) ws 0 within) (front n es (drop (0 + length (edge_words (take n es))) ws) h)
