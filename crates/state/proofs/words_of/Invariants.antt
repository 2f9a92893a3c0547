-- The six words before the roles, then as many roles as were passed. Assumes nothing.
use Rattle.std.proofs.Common.{ℕ, ◌+◌, List, ◌++◌, map, take}
use mathlib.Core.Path.{◌≡◌}
use lib.ListN.{length, replicate}
use lib.Seq.{sets}
use Rattle.builder.specs.declared.Tally.{Tally}
use Rattle.state.specs.declared.Counts.{Counts}
use Rattle.state.proofs.Words.{six}
use Rattle.btor2.specs.declared.NodeRef.{NodeRef}
use Rattle.state.specs.Roles.{role_count}
use Rattle.state.specs.Words.{first_role, state_words, place}
use Rattle.state.proofs.Stored.{front}
use Rattle.state.proofs.words_of.Given as goal

-- what is to be stored, over words whose first six are right already
abbrev pub wanted : List ℕ → List NodeRef → List ℕ
wanted words₀ places = take first_role words₀ ++ map place places

-- the words before any role is stored
abbrev pub begun : Tally → Counts → List ℕ
begun t c = sets (replicate state_words 0) 0 (six t c)

abbrev pub invariant-loop-k : goal.invariant-loop-k
invariant-loop-k l =
    let words₀ = begun l.fn.t l.fn.c in
    (length l.places ≡ role_count) × (length l.words ≡ state_words) × (l.words ≡ front (wanted words₀ l.places) words₀ (first_role + l.k))
