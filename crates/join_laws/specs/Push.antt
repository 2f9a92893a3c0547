-- A program run on a list of lines itself: each line is put after the others, and its place is how many there were.
use Rattle.std.specs.Prelude.{ℕ, List, [], ◌∷◌, ◌++◌, length}
use Rattle.btor2.specs.Op.{Op}
use Rattle.builder.specs.Prog.{Prog, Run, ran, exec}

abbrev pub push : List (Op ℕ) → Op ℕ → Run (List (Op ℕ)) ℕ
push xs o = ran (xs ++ (o ∷ [])) (length xs)

abbrev pub pushed : {X : Type 0} → List (Op ℕ) → Prog ℕ X → Run (List (Op ℕ)) X
pushed xs p = exec push xs p
