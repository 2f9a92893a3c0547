-- A piece that was copied, and one that is read back. Assumes nothing.
use Prim.Native.Nat.{ℕ, ◌+◌, ◌^◌, ◌≤◌, ◌<◌}
use mathlib.Core.Path.{◌≡◌, sym, ap, ◌∙◌}
use mathlib.Core.List.{List, ◌++◌, append_assoc}
use native.Mathlib.Omega.{arith}
use Rattle.std.proofs.Common.{drop-drop}
use lib.ListN.{length, take, drop}
use lib.Seq.{sets, sets-eq, take-append_seam}
use borrow.Rule.Slice.PartMut.{put_mid}
use Rattle.text.specs.Put.{Put}
use Rattle.text.proofs.Laws.{put_is}

-- bytes copied into as long a part of an output
pub copied : (l s : List ℕ) (i k : ℕ) → k ≡ length s → i + length s ≤ length l → put_mid i k l s ≡ sets l i s
copied l s i k e h =
    let after : drop k (drop i l) ≡ drop (i + length s) l = drop-drop k i l ∙ ap (λ (n : ℕ). drop (i + n) l) e in
    ap (λ (r : List ℕ). take i l ++ (s ++ r)) after ∙ sym (sets-eq s l i h ∙ append_assoc (take i l) s _)

-- a piece at the start of an output with room for it is read back
pub read_back : {l l' s : List ℕ} {r : ℕ} → Put l 0 s l' r → r ≤ length l → length l < 2 ^ 63 → (r ≡ length s) × (take r l' ≡ s)
read_back {l} {l'} {s} {r} u h k =
    let e : r ≡ length s = omega (arith, u.next) in
    (e, rw (put_is u (omega arith), e) (rw append_assoc (take-append_seam s (drop (0 + length s) l))))
