-- The laws by which the functions over a builder are proved: a call and what follows it, and nothing at all. Assumes nothing.
use Rattle.std.proofs.Common.{ℕ, refl, ◌∙◌}
use Rattle.builder.specs.Prog.{Prog, done, ◌>>=◌}
use Rattle.builder.specs.declared.Builder.{Builder}
use Rattle.builder.specs.Builds.{Builds}
use Rattle.builder.proofs.Gives as G

pub on : {X Y : Type 0} {b b1 b2 : Builder} {p : Prog ℕ X} {x : X} {y : Y} (f : X → Prog ℕ Y)
    → Builds b p b1 x → Builds b1 (f x) b2 y → Builds b (p >>= f) b2 y
on f a b = record { is = G.on f a.is b.is; same = b.same ∙ a.same }

pub stop : {X : Type 0} {b : Builder} {x : X} → Builds b (done x) b x
stop = record { is = G.stop; same = refl }
