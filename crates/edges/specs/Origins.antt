-- The origins of an in-edge by their numbers, which specs/Edges has: "kind regular, branch or syscall".
use Rattle.std.specs.Prelude.{ℕ, List, [], ◌∷◌}
use Rattle.edges.specs.declared.Origin.{Origin}
use Rattle.edges.specs.declared.Origin.TheVariants.{Regular, Branch, Syscall}
use Rattle.edges.specs.Edges.{regular_origin, branch_origin, syscall_origin}

abbrev pub origin_number : Origin → ℕ
origin_number Regular = regular_origin
origin_number Branch = branch_origin
origin_number Syscall = syscall_origin

-- each at its number
abbrev pub origins : List Origin
origins = Regular ∷ Branch ∷ Syscall ∷ []
