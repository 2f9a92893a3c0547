-- What only private contracts cite.
use Rattle.std.specs.Prelude.{ℕ, List, ◌++◌, map, take, drop}
use Rattle.btor2.specs.declared.NodeRef.{NodeRef}
use Rattle.state.specs.Words.{first_role, state_words, place}

-- words that hold other roles; those before and after them are as they were
unfoldable pub with_roles : List ℕ → List NodeRef → List ℕ
with_roles ws roles = take first_role ws ++ map place roles ++ drop state_words ws
