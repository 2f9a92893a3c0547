-- What the listing says of edges, dispatches and refusals (document 01, "The listing program has its own start").
use Rattle.std.specs.Prelude.{ℕ, zero, suc, ◌+◌, ◌-◌, ◌*◌, ◌/◌, ◌^◌, cond, List, [], ◌++◌, eqb, ltb, length, get_or}
use Prim.Native.String.{String}
use Rattle.btor2_list.specs.Node.{Node}
use Rattle.line_text.specs.Line.{nid_at}
use Rattle.text.specs.Ascii.{ascii, newline}
use Rattle.text.specs.Numeral.{decimal_text}

-- "kind regular, branch or syscall"
abbrev pub origin_word : ℕ → String
origin_word origin = cond (eqb origin 0) "regular" (cond (eqb origin 1) "branch" "syscall")

-- "condition an identifier or `-`"
abbrev pub condition_text : List Node → ℕ → List ℕ
condition_text ns condition = cond (eqb condition (2 ^ 64 - 1)) (ascii "-") (decimal_text (nid_at ns condition))

-- "`; in TO from FROM KIND CONDITION`"
unfoldable pub edge_text : List Node → ℕ → ℕ → ℕ → ℕ → List ℕ
edge_text ns to from origin condition =
    ascii "; in " ++ decimal_text to ++ ascii " from " ++ decimal_text from ++ ascii " " ++ ascii (origin_word origin) ++ ascii " "
    ++ condition_text ns condition ++ newline

-- "`; dyn REGISTER FROM`"
unfoldable pub dispatch_text : ℕ → ℕ → List ℕ
dispatch_text register from = ascii "; dyn " ++ decimal_text register ++ ascii " " ++ decimal_text from ++ newline

-- "`; refused LINE NUMBER`, lines counted from 1"
unfoldable pub refused_text : ℕ → ℕ → List ℕ
refused_text line number = ascii "; refused " ++ decimal_text line ++ ascii " " ++ decimal_text number ++ newline

-- ---- of lent lists

-- record k of edges: to, from, origin, condition
unfoldable pub edge_text_at : List Node → List ℕ → ℕ → List ℕ
edge_text_at ns es k =
    cond (ltb k (length es / 4))
    (edge_text ns (get_or es (k * 4) 0) (get_or es (k * 4 + 1) 0) (get_or es (k * 4 + 2) 0) (get_or es (k * 4 + 3) 0)) []

unfoldable pub edges_text : List Node → List ℕ → ℕ → List ℕ
edges_text ns es zero = []
edges_text ns es (suc n) = edges_text ns es n ++ edge_text_at ns es n

-- record k of dispatches: register, from
unfoldable pub dispatch_text_at : List ℕ → ℕ → List ℕ
dispatch_text_at ds k = cond (ltb k (length ds / 2)) (dispatch_text (get_or ds (k * 2) 0) (get_or ds (k * 2 + 1) 0)) []

unfoldable pub dispatches_text : List ℕ → ℕ → List ℕ
dispatches_text ds zero = []
dispatches_text ds (suc n) = dispatches_text ds n ++ dispatch_text_at ds n
