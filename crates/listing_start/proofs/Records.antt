-- Records put one after the other. Assumes nothing.
use Rattle.std.specs.Prelude.{None}
use Prim.Native.Nat.{ℕ, suc, ◌+◌, ◌≤◌, ◌<◌}
use native.Mathlib.Nat.{zero-add, add-zero}
use native.Mathlib.Numerals.{add-one}
use native.Mathlib.Omega.{arith}
use mathlib.Core.Path.{◌≡◌, refl, sym, ap, ◌∙◌}
use mathlib.Core.List.{List, [], ◌∷◌, ◌++◌, append_assoc}
use lib.ListN.{length, get_or, take, drop}
use lib.Seq.{sets, sets-eq, take-suc, take_all, length-take-le}
use Rattle.btor2.specs.Op.{Op, unknown}
use Rattle.btor2_list.specs.Record.{words_for, words}
use Rattle.btor2_list.specs.Node.{line_of}
use Rattle.text.proofs.Laws.{sets-append}
use Rattle.listing_start.specs.Start.{records}

pub records-length : (nid : ℕ) (os : List (Op ℕ)) → length (records nid os) ≡ words_for (length os)
unfolding records
records-length nid [] = refl
records-length nid (o ∷ os) = omega (arith, records-length (nid + 1) os)

-- one line more
records_more : (nid : ℕ) (os : List (Op ℕ)) (o : Op ℕ) → records nid (os ++ (o ∷ [])) ≡ records nid os ++ words (line_of None (nid + length os) o)
unfolding records
records_more nid [] o = rw add-zero
records_more nid (p ∷ os) o =
    let e : nid + 1 + length os ≡ nid + suc (length os) = omega arith in
    ap (λ (r : List ℕ). words (line_of None nid p) ++ r) (rw e at (records_more (nid + 1) os o)) ∙ sym (append_assoc (words (line_of None nid p)) (records (nid + 1) os) _)

-- put at its place, in front of which the others stand
pub put_more : (nid : ℕ) (os : List (Op ℕ)) (ws : List ℕ) (k : ℕ) → k < length os
    → sets (sets ws 0 (records nid (take k os))) (words_for k) (words (line_of None (nid + k) (get_or os k unknown))) ≡ sets ws 0 (records nid (take (k + 1) os))
put_more nid os ws k h =
    let size : length (take k os) ≡ k = length-take-le k os (omega arith) in
    let there : 0 + length (records nid (take k os)) ≡ words_for k = zero-add _ ∙ records-length nid (take k os) ∙ ap words_for size in
    let line : words (line_of None (nid + length (take k os)) (get_or os k unknown)) ≡ words (line_of None (nid + k) (get_or os k unknown)) = rw size in
    let more : take (k + 1) os ≡ take k os ++ (get_or os k unknown ∷ []) = ap (λ (n : ℕ). take n os) (add-one k) ∙ take-suc os k unknown h in
    ap (λ (n : ℕ). sets (sets ws 0 (records nid (take k os))) n (words (line_of None (nid + k) (get_or os k unknown)))) (sym there)
    ∙ sets-append (records nid (take k os)) (words (line_of None (nid + k) (get_or os k unknown))) ws 0
    ∙ ap (λ (v : List ℕ). sets ws 0 v) (sym (ap (records nid) more ∙ records_more nid (take k os) (get_or os k unknown) ∙ ap (λ (v : List ℕ). records nid (take k os) ++ v) line))

-- and all of them
pub put_all : (nid : ℕ) (os : List (Op ℕ)) (ws : List ℕ) (k : ℕ) → length os ≤ k → words_for (length os) ≤ length ws
    → sets ws 0 (records nid (take k os)) ≡ records nid os ++ drop (words_for (length os)) ws
put_all nid os ws k h room =
    ap (λ (v : List (Op ℕ)). sets ws 0 (records nid v)) (take_all k os h)
    ∙ sets-eq (records nid os) ws 0 (rw (zero-add (length (records nid os)), records-length nid os) room)
    ∙ ap (λ (n : ℕ). records nid os ++ drop n ws) (zero-add _ ∙ records-length nid os)
