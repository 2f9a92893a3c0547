-- What only private contracts cite.
use Rattle.std.specs.Prelude.{ℕ, ◌+◌, Bool, cond, ◌||◌, leb, eqb, Option, Some, None}
use Rattle.btor2.specs.Op.{identifiers}
use Rattle.btor2_list.specs.Node.{Node}
use Rattle.nid_check.specs.Identifiers.{reserved}

-- an identifier that may not stand after `last` and before `next`
abbrev pub nid_out : ℕ → ℕ → ℕ → Bool
nid_out next last t = leb t last || (reserved t || leb next t)

-- how far the identifiers of a line go
abbrev pub rise_of : ℕ → ℕ → Node → Option ℕ
rise_of next last x =
    cond (nid_out next last x.nid) None
    (cond (eqb (identifiers x.op) 1) (Some x.nid) (cond (nid_out next x.nid (x.nid + 1)) None (Some (x.nid + 1))))
