-- Lines after a list change no value in it. Assumes nothing.
use Prim.Native.Nat.{ℕ, ◌<◌}
use mathlib.Core.Path.{◌≡◌}
use mathlib.Core.List.{List, ◌++◌}
use lib.ListN.{length}
use Rattle.btor2.specs.Op.{Op}
use Rattle.btor2.specs.Value.{Value, number, Env, eval_op, values, value}
use Rattle.btor2.proofs.Walk.{walk_kept}

pub value_kept : (env : Env) (xs ys : List (Op ℕ)) (p : ℕ) → p < length xs → value env (xs ++ ys) p ≡ value env xs p
unfolding value values
value_kept env = walk_kept Value (number 0) (eval_op env)
