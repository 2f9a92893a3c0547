-- Lines under the identifiers that they take.
use Rattle.std.specs.Prelude.{ℕ, ◌+◌, List, [], ◌∷◌, Option}
use Rattle.btor2.specs.Op.{Op, identifiers}
use Rattle.btor2_list.specs.Node.{Node, node}

-- how many identifiers lines take
unfoldable pub taking : {A : Type 0} → List (Op A) → ℕ
taking [] = 0
taking (o ∷ os) = identifiers o + taking os

-- lines under identifiers that go up by what each takes, all with the address of one instruction or without one
unfoldable pub numbered : Option ℕ → ℕ → List (Op ℕ) → List Node
numbered whose nid [] = []
numbered whose nid (o ∷ os) = node whose nid o ∷ numbered whose (nid + identifiers o) os
