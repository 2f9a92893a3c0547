-- The contract of every method of the builder, and of every function that works by it.
use Rattle.std.specs.Prelude.{◌≡◌, ℕ}
use Rattle.builder.specs.Prog.{Prog}
use Rattle.builder.specs.Gives.{Gives}
use Rattle.builder.specs.declared.Builder.{Builder}

-- the program p, run by the builder b, leaves it as b' and gives x; it holds the same words as before
pub record Builds {X : Type 0} (b : Builder) (p : Prog ℕ X) (b' : Builder) (x : X) : Type 0 where
  pub is : Gives b.list.now b.tally p b'.list.now b'.tally x
  pub same : b'.list.ghost_name ≡ b.list.ghost_name
