-- The words of a record, cut from the list's. Assumes nothing.
use Rattle.std.specs.Prelude.{Option, Some, None, MatchOption, get_or}
use Rattle.std.specs.Simd.{first_chunks}
use Prim.Native.Nat.{ℕ, zero, suc, ◌+◌, ◌*◌, ◌<◌, ◌≤◌}
use mathlib.Core.Path.{◌≡◌, ap, ◌∙◌}
use mathlib.Core.List.{List, []}
use native.Mathlib.Omega.{arith}
use native.Mathlib.Nat.{suc-mul, zero-mul, zero-add}
use borrow.Author.Tests.{lt-ltb, le-ltb}
use lib.ListN.{length, take, drop}
use lib.Seq.{drop-drop}
use Rattle.std.proofs.lemmas.List.{get_or-drop, get_or-take}
use Rattle.std.specs.List.{HoldsAt}
use Rattle.std.specs.Borrow.{Bor}
use mathlib.Core.Bool.{false}
use Rattle.btor2_list.specs.Record.{stride, capacity, words_for, record_at, holds}
use Rattle.btor2_list.specs.Inside.{IsRecord}
use Rattle.btor2_list.proofs.Stored.{same_words}

chunk_at : (n k p : ℕ) (ws d : List ℕ) → p < k → get_or (first_chunks n k ws) p d ≡ take n (drop (p * n) ws)
chunk_at n zero p ws d h = absurd (omega arith)
chunk_at n (suc k) zero ws d h = rw zero-mul
chunk_at n (suc k) (suc p) ws d h =
    let on : n + p * n ≡ suc p * n = omega (arith, suc-mul p n) in
    chunk_at n k p (drop n ws) d (omega arith) ∙ ap (take n) (drop-drop (p * n) n ws ∙ ap (λ (j : ℕ). drop j ws) on)

-- the chunk at place p
pub chunk_is : (ws r d : List ℕ) (p : ℕ) → p < capacity (length ws) → r ≡ get_or (first_chunks stride (capacity (length ws)) ws) p d → IsRecord ws p r
chunk_is ws r d p h e = record {
  there = lt-ltb _ _ h;
  same = λ k l. rw (e ∙ chunk_at stride (capacity (length ws)) p ws d h, zero-add, get_or-take stride (drop (words_for p) ws) k 0 l, get_or-drop (words_for p) ws k 0);
}

pub record_read : (ws r : List ℕ) (p : ℕ) → IsRecord ws p r → record_at ws p ≡ record_at r 0
record_read ws r p h = same_words ws r p 0 h.same

-- what a look-up among the chunks finds
pub record_found : (ws : List ℕ) (p : ℕ) (chunks : List (List ℕ)) → chunks ≡ first_chunks stride (capacity (length ws)) ws → length chunks ≡ capacity (length ws)
    → (o : Option (Bor (List ℕ)))
    → MatchOption o (length chunks ≤ p) (λ x. (p < length chunks) × HoldsAt (λ y. x.now ≡ y) chunks p)
    → MatchOption o (holds ws p ≡ false) (λ r. IsRecord ws p r.now)
record_found ws p chunks e n (Some r) h = chunk_is ws r.now [] p (omega (arith, h.0)) (h.1 [] ∙ ap (λ (cs : List (List ℕ)). get_or cs p []) e)
record_found ws p chunks e n None h = le-ltb _ _ (omega (arith, h))
