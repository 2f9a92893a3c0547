-- The lines that lent words stand for.
use Rattle.std.specs.Prelude.{ℕ, List}
use Rattle.btor2.specs.Op.{Op}
use Rattle.btor2_list.specs.View.{view}
use Rattle.list_check.specs.Lines.{ops}

-- the first n, without their identifiers
unfoldable pub operators : List ℕ → ℕ → List (Op ℕ)
operators words n = ops (view words n)
