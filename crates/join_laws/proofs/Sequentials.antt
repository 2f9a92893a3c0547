-- A run puts Nexts after the sequentials that are in use, and changes no other. Assumes nothing.
use Prim.Native.Nat.{ℕ, ◌+◌, ◌/◌, ◌≤◌}
use native.Mathlib.Omega.{arith}
use native.Mathlib.Nat.{mul-one}
use mathlib.Core.Path.{refl, ◌∙◌}
use mathlib.Core.Bool.{Bool, true, false, cond}
use mathlib.Core.List.{List, [], ◌∷◌}
use lib.Dec.{ltb}
use lib.ListN.{length}
use lib.Seq.{sets, length-sets}
use Rattle.btor2.specs.Op.{Op}
use Rattle.btor2_list.proofs.Stored.{below, above}
use Rattle.btor2_list.specs.Records.{put_record}
use Rattle.builder.specs.Prog.{Prog, done, line, exec}
use Rattle.builder.specs.Append.{append}
use Rattle.lowering_laws.specs.Elsewhere.{Elsewhere}
use Rattle.join.specs.Listed.{is_next, Listed, listed, append_listed}

pub record Listing (s r : Listed) : Type 0 where
  pub grows : s.count ≤ r.count
  pub part : Elsewhere s.count r.count s.sequentials r.sequentials

-- one more place
put_one : (ws : List ℕ) (n x : ℕ) → Elsewhere n (n + 1) ws (put_record 1 ws n (x ∷ []))
put_one ws n x = rw mul-one (go (ltb n (length ws / 1)))
  where
    go : (b : Bool) → Elsewhere n (n + 1) ws (cond b (sets ws n (x ∷ [])) ws)
    go true = record { size = length-sets ws n (x ∷ []); below = λ j h. below (x ∷ []) ws n j h; above = λ j h. above (x ∷ []) ws n j h }
    go false = record { size = refl; below = λ j h. refl; above = λ j h. refl }

-- a step, then the rest
and_then : {s m r : Listed} → Listing s m → Listing m r → Listing s r
and_then a b = record {
  grows = omega (arith, a.grows, b.grows);
  part = record {
    size = b.part.size ∙ a.part.size;
    below = λ j h. b.part.below j (omega (arith, a.grows)) ∙ a.part.below j h;
    above = λ j h. b.part.above j h ∙ a.part.above j (omega (arith, b.grows));
  };
}

step : (s : Listed) (o : Op ℕ) → Listing s (append_listed s o).state
unfolding append_listed
step s o = go (is_next o)
  where
    go : (b : Bool) → Listing s
        (cond b (listed (append s.store o).state (put_record 1 s.sequentials s.count ((append s.store o).value ∷ [])) (s.count + 1))
        (listed (append s.store o).state s.sequentials s.count))
    go true = record { grows = omega arith; part = put_one s.sequentials s.count (append s.store o).value }
    go false = record { grows = omega arith; part = record { size = refl; below = λ j h. refl; above = λ j h. refl } }

pub listed_else : {X : Type 0} (p : Prog ℕ X) (s : Listed) → Listing s (exec append_listed s p).state
listed_else (done x) s = record { grows = omega arith; part = record { size = refl; below = λ j h. refl; above = λ j h. refl } }
listed_else (line o k) s = and_then (step s o) (listed_else (k (append_listed s o).value) (append_listed s o).state)
