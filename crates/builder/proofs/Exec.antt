-- A run of one program after another. Assumes nothing.
use Rattle.std.proofs.Common.{◌≡◌, sym, refl, ◌∙◌, subst}
use Rattle.btor2.specs.Op.{Op}
use Rattle.builder.specs.Prog.{Prog, done, line, ◌>>=◌, Run, ran, exec}

module _ {S A : Type 0} (emit : S → Op A → Run S A) where
  pub exec-bind : {X Y : Type 0} (p : Prog A X) (f : X → Prog A Y) (s : S) → exec emit s (p >>= f) ≡ exec emit (exec emit s p).state (f (exec emit s p).value)
  unfolding ◌>>=◌
  exec-bind (done x) f s = refl
  exec-bind (line o k) f s = exec-bind (k (emit s o).value) f (emit s o).state

  -- a chain of calls, one step: the first call gave s and x, and the rest goes on from there
  pub chain : {X Y : Type 0} (st : S) (p : Prog A X) (f : X → Prog A Y) {s : S} {x : X} {y : Run S Y}
      → ran s x ≡ exec emit st p → y ≡ exec emit s (f x) → y ≡ exec emit st (p >>= f)
  chain {X} st p f {s} {x} {y} e q = subst (λ (r : Run S X). y ≡ exec emit r.state (f r.value)) e q ∙ sym (exec-bind p f st)
