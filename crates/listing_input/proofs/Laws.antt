-- What `split` is, said in full: the parts joined again are the bytes, and no part holds a separator. No proof of the code needs it.
-- Assumes nothing.
use Prim.Native.Nat.{ℕ}
use mathlib.Core.Path.{◌≡◌, refl}
use mathlib.Core.Bool.{Bool, true, false, cond}
use mathlib.Core.List.{List, [], ◌∷◌, ◌++◌}
use lib.Dec.{eqb}
use lib.ListN.{length}
use borrow.Author.Tests.{eqb-true}
use Rattle.listing_input.specs.Text.{split, on_first, before}

-- the parts with a separator between each two
pub join : ℕ → List (List ℕ) → List ℕ
join sep [] = []
join sep (p ∷ []) = p
join sep (p ∷ q ∷ ps) = p ++ (sep ∷ join sep (q ∷ ps))

join-on_first : (sep b : ℕ) (ps : List (List ℕ)) → join sep (on_first b ps) ≡ b ∷ join sep ps
unfolding join on_first
join-on_first sep b [] = refl
join-on_first sep b (p ∷ []) = refl
join-on_first sep b (p ∷ q ∷ ps) = refl

join_empty : (sep : ℕ) (bs : List ℕ) → join sep ([] ∷ split sep bs) ≡ sep ∷ join sep (split sep bs)
unfolding join split on_first
join_empty sep [] = refl
join_empty sep (b ∷ bs) = go (eqb b sep) (split sep bs)
  where
    go : (t : Bool) (ps : List (List ℕ)) → join sep ([] ∷ cond t ([] ∷ ps) (on_first b ps)) ≡ sep ∷ join sep (cond t ([] ∷ ps) (on_first b ps))
    go true ps = refl
    go false [] = refl
    go false (p ∷ ps) = refl

pub joined : (sep : ℕ) (bs : List ℕ) → join sep (split sep bs) ≡ bs
unfolding join split
joined sep [] = refl
joined sep (b ∷ bs) = go (eqb b sep) refl (joined sep bs)
  where
    go : (t : Bool) → eqb b sep ≡ t → join sep (split sep bs) ≡ bs → join sep (cond t ([] ∷ split sep bs) (on_first b (split sep bs))) ≡ b ∷ bs
    go true e r = rw (join_empty, r, eqb-true b sep e)
    go false e r = rw (join-on_first, r)

-- no separator stands in any part
pub Clean : ℕ → List (List ℕ) → Type 0
Clean sep [] = Unit {0}
Clean sep (p ∷ ps) = (before sep p ≡ length p) × Clean sep ps

pub clean : (sep : ℕ) (bs : List ℕ) → Clean sep (split sep bs)
unfolding Clean split on_first before
clean sep [] = (refl, tt)
clean sep (b ∷ bs) = go (eqb b sep) refl (split sep bs) (clean sep bs)
  where
    go : (t : Bool) → eqb b sep ≡ t → (ps : List (List ℕ)) → Clean sep ps → Clean sep (cond t ([] ∷ ps) (on_first b ps))
    go true e ps h = (refl, h)
    go false e [] h = (rw e, tt)
    go false e (p ∷ ps) h = (rw (e, h.0), h.1)
