-- The bytes of a name (document 01, "What changes shape": "a name lookup returns the very bytes, from the host's area or ours; for a
-- missing name or one outside, the host's first 0 bytes").
use Rattle.std.specs.Prelude.{ℕ, ◌+◌, cond, List, [], leb, eqb, length, take, drop}
use Rattle.btor2.specs.declared.Name.{Name}

-- the len bytes of s from `at` on, or none where they do not lie within s
abbrev pub part_of : List ℕ → ℕ → ℕ → List ℕ
part_of s at len = cond (leb (at + len) (length s)) (take len (drop at s)) []

-- the areas; a missing name has neither
abbrev pub area_of_host : ℕ
area_of_host = 1

abbrev pub our_area : ℕ
our_area = 2

abbrev pub name_bytes : List ℕ → List ℕ → Name → List ℕ
name_bytes host ours name =
    cond (eqb name.area area_of_host) (part_of host name.at name.len) (cond (eqb name.area our_area) (part_of ours name.at name.len) [])
