-- Refusal 11 (document 01, "Who can be refused, and with what"): "unknown kind or sort, an Ext from Memory, an operand that isn't an
-- earlier value line, or a name outside its area".
use Rattle.std.specs.Prelude.{ℕ, ◌+◌, Bool, true, false, cond, ◌&&◌, ◌||◌, List, [], ◌∷◌, eqb, ltb, length, Option, Some, None}
use Rattle.btor2.specs.declared.NodeType.{NodeType}
use Rattle.std.proofs.Math.Bool as B
use Rattle.btor2.specs.declared.Name.{Name}
use Rattle.btor2.specs.declared.NodeType.TheVariants.{Memory}
use Rattle.btor2.specs.Sort.{same_sort}
use Rattle.btor2.specs.Op.{Op, const, read, write, bin, uext, ite, eq, and, or, not, state, state_init, next, input, bad, unknown, carried}
use Rattle.btor2_list.specs.Node.{no_name}
use Rattle.btor2_list.specs.View.{view}
use Rattle.list_check.specs.Lines.{ops, op_at, some, any, past_words}

-- "unknown kind or sort"
abbrev pub is_unknown : Op ℕ → Bool
is_unknown (const s n) = false
is_unknown (read m a) = false
is_unknown (write m a v) = false
is_unknown (bin o a b) = false
is_unknown (uext s a) = false
is_unknown (ite s c a b) = false
is_unknown (eq a b) = false
is_unknown (and s a b) = false
is_unknown (or s a b) = false
is_unknown (not s a) = false
is_unknown (state s m) = false
is_unknown (state_init s a m) = false
is_unknown (next s a b) = false
is_unknown (input s m) = false
is_unknown (bad a m) = false
is_unknown unknown = true

-- "an Ext from Memory"
abbrev pub ext_from_memory : Op ℕ → Bool
ext_from_memory (const s n) = false
ext_from_memory (read m a) = false
ext_from_memory (write m a v) = false
ext_from_memory (bin o a b) = false
ext_from_memory (uext s a) = same_sort s Memory
ext_from_memory (ite s c a b) = false
ext_from_memory (eq a b) = false
ext_from_memory (and s a b) = false
ext_from_memory (or s a b) = false
ext_from_memory (not s a) = false
ext_from_memory (state s m) = false
ext_from_memory (state_init s a m) = false
ext_from_memory (next s a b) = false
ext_from_memory (input s m) = false
ext_from_memory (bad a m) = false
ext_from_memory unknown = false

-- the places that a line names
abbrev pub operands : Op ℕ → List ℕ
operands (const s n) = []
operands (read m a) = m ∷ a ∷ []
operands (write m a v) = m ∷ a ∷ v ∷ []
operands (bin o a b) = a ∷ b ∷ []
operands (uext s a) = a ∷ []
operands (ite s c a b) = c ∷ a ∷ b ∷ []
operands (eq a b) = a ∷ b ∷ []
operands (and s a b) = a ∷ b ∷ []
operands (or s a b) = a ∷ b ∷ []
operands (not s a) = a ∷ []
operands (state s m) = []
operands (state_init s a m) = a ∷ []
operands (next s a b) = a ∷ b ∷ []
operands (input s m) = []
operands (bad a m) = a ∷ []
operands unknown = []

-- the name of a State, an Input or a Bad; the other lines have none
abbrev pub name_of : Op ℕ → Name
name_of (const s n) = no_name
name_of (read m a) = no_name
name_of (write m a v) = no_name
name_of (bin o a b) = no_name
name_of (uext s a) = no_name
name_of (ite s c a b) = no_name
name_of (eq a b) = no_name
name_of (and s a b) = no_name
name_of (or s a b) = no_name
name_of (not s a) = no_name
name_of (state s m) = m
name_of (state_init s a m) = m
name_of (next s a b) = no_name
name_of (input s m) = m
name_of (bad a m) = m
name_of unknown = no_name

-- "a name outside its area", the areas being `host` and `ours` bytes long. A missing name, of area 0, is nowhere outside; a mark other than
-- 0, 1 and 2 is that of no area, so that its name is outside.
abbrev pub name_outside : ℕ → ℕ → Name → Bool
name_outside host ours m =
    cond (eqb m.area 0) false
    (cond (eqb m.area 1) (ltb host (m.at + m.len)) (cond (eqb m.area 2) (ltb ours (m.at + m.len)) true))

abbrev pub has_value : Option NodeType → Bool
has_value (Some s) = true
has_value None = false

-- "an earlier value line", seen from the line at place p
abbrev pub earlier_value : List (Op ℕ) → ℕ → ℕ → Bool
earlier_value xs p q = ltb q p && has_value (carried (op_at xs q))

-- of one line, `out` telling the operands that are no earlier value lines
unfoldable pub op_unformed : ℕ → ℕ → (ℕ → Bool) → Op ℕ → Bool
op_unformed host ours out o = is_unknown o || (ext_from_memory o || (name_outside host ours (name_of o) || any out (operands o)))

abbrev pub line_unformed : ℕ → ℕ → List (Op ℕ) → ℕ → Bool
line_unformed host ours xs p = op_unformed host ours (λ q. B.not (earlier_value xs p q)) (op_at xs p)

-- 11, of a list of lines
unfoldable pub unformed : ℕ → ℕ → List (Op ℕ) → Bool
unformed host ours xs = some (length xs) (line_unformed host ours xs)

-- of the first n lines of the lent words, or the words do not hold n lines
abbrev pub unformed_words : List ℕ → ℕ → ℕ → ℕ → Bool
unformed_words ws n host ours = past_words ws n || unformed host ours (ops (view ws n))
