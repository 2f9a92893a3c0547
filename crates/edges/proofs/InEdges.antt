-- The words of records: four each, a record that is set is its words put, and words of records are of one list of records only. Assumes nothing.
use Rattle.std.proofs.Common.{◌≡◌, ℕ, zero, suc, ◌*◌, ◌/◌, ◌<◌, List, [], ◌∷◌, length, set, refl, ap, arith, lt-ltb}
use lib.Seq.{sets}
use Rattle.edges.specs.Edges.{edge}
use Rattle.btor2_list.specs.Records.{put_record}
use Rattle.edges.specs.declared.InEdge.{InEdge}
use Rattle.edges.specs.InEdges.{edge_words}

pub length-words : (es : List InEdge) → length (edge_words es) ≡ length es * 4
unfolding edge_words
length-words [] = refl
length-words (e ∷ es) = omega (arith, length-words es)

pub records : (es : List InEdge) → length (edge_words es) / 4 ≡ length es
records es = omega (arith, length-words es)

abbrev pub words : InEdge → List ℕ
words e = edge e.to e.from e.origin e.condition.0

set_words : (es : List InEdge) (p : ℕ) (e : InEdge) → p < length es → edge_words (set es p e) ≡ sets (edge_words es) (p * 4) (words e)
unfolding edge_words
set_words [] p e h = let z : ◌≡◌ {A = ℕ} 0 1 = omega arith in absurd (omega arith)
set_words (x ∷ es) zero e h = refl
set_words (x ∷ es) (suc p) e h =
    let next : suc p * 4 ≡ suc (suc (suc (suc (p * 4)))) = omega arith in
    rw next (ap (λ (ws : List ℕ). x.to ∷ x.from ∷ x.origin ∷ x.condition.0 ∷ ws) (set_words es p e (omega arith)))

pub put_words : (es : List InEdge) (p : ℕ) (e : InEdge) → p < length es → edge_words (set es p e) ≡ put_record 4 (edge_words es) p (words e)
put_words es p e h = rw (records es, lt-ltb p (length es) h) (set_words es p e h)

-- so a promise of a list's words is one of the list
pub only : (es fs : List InEdge) → edge_words es ≡ edge_words fs → es ≡ fs
unfolding edge_words
only [] [] h = refl
only [] (f ∷ fs) h = let z : ◌≡◌ {A = ℕ} 0 1 = cc in absurd (omega arith)
only (e ∷ es) [] h = let z : ◌≡◌ {A = ℕ} 0 1 = cc in absurd (omega arith)
only (e ∷ es) (f ∷ fs) h =
    let a : e.to ≡ f.to = cc in
    let b : e.from ≡ f.from = cc in
    let c : e.origin ≡ f.origin = cc in
    let d : e.condition.0 ≡ f.condition.0 = cc in
    let rest : es ≡ fs = only es fs cc in
    λ i. record { to = a i; from = b i; origin = c i; condition = record { 0 = d i } } ∷ rest i
