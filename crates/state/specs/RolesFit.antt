-- Refusal 13: each of the 79 places (roles/specs/Roles) is a value line of its sort.
use Rattle.std.specs.Prelude.{ℕ, ◌+◌, Bool, true, ◌&&◌, List, [], ◌∷◌, ◌++◌, eqb, get_or, replicate}
use Rattle.btor2.specs.declared.NodeRef.{NodeRef}
use Rattle.btor2.specs.declared.NodeType.{NodeType}
use Rattle.btor2.specs.declared.NodeType.TheVariants.{Bit, Word, Memory}
use Rattle.btor2.specs.Sort.{sort_number, sort_or_none}
use Rattle.btor2_list.specs.declared.Looked.{Looked}
use Rattle.btor2_list.specs.Look.{look_at}

-- the number of the sort of a value, 0 where there is none
abbrev pub value_sort : Looked → ℕ
value_sort x = sort_or_none x.sort

-- the sorts of the roles, in their order: "zero and one as Bit and as Word; 32 register nodes and 31 flows, all Word; memory and counter nodes
-- and flows, Memory; counter maximum and its flow, division, remainder and access flows, Word; two overflow flows and the ecall flow, Bit"
abbrev pub role_sorts : List NodeType
role_sorts =
    Bit ∷ Bit ∷ Word ∷ Word ∷ Memory ∷ Memory ∷ Word ∷ replicate 32 Word ++ replicate 31 Word
    ++ (Memory ∷ Memory ∷ Word ∷ Word ∷ Word ∷ Word ∷ Bit ∷ Bit ∷ Bit ∷ [])

abbrev pub role_sort : ℕ → NodeType
role_sort i = get_or role_sorts i Bit

-- from role i on, each is a value line of its sort
unfoldable pub roles_fit : List ℕ → ℕ → ℕ → List NodeRef → Bool
roles_fit ws n i [] = true
roles_fit ws n i (r ∷ rs) = eqb (value_sort (look_at ws n r.0)) (sort_number (role_sort i)) && roles_fit ws n (i + 1) rs
