-- What is copied into a part of a slice stands in it one number after the other. Assumes nothing.
use Rattle.std.proofs.Common.{◌≡◌, ℕ, ◌+◌, ◌≤◌, List, ◌++◌, length, refl, sym, ap₂, ◌∙◌, arith, take-append-drop}
use Rattle.std.proofs.lemmas.List.Edits.{sets, sets-eq}
use Rattle.std.proofs.lemmas.Slice.{take-put_mid, drop-put_mid}
use borrow.Rule.Slice.PartMut.{put_mid}

-- into the k numbers from a on
pub copied : (ws fields : List ℕ) (a k : ℕ) → length fields ≡ k → a + k ≤ length ws → put_mid a k ws fields ≡ sets ws a fields
copied ws fields a k e h =
    let n = a + length fields in
    sym (take-append-drop n (put_mid a k ws fields))
    ∙ ap₂ (λ (x y : List ℕ). x ++ y) (take-put_mid a k ws fields n refl (omega arith)) (drop-put_mid a k ws fields n (omega arith) (omega arith) e)
    ∙ sym (sets-eq fields ws a (omega arith))
