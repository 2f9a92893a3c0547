-- The operators of the lent words: how many, and what a lookup says of one. Assumes nothing.
use Rattle.std.specs.Prelude.{Option, Some, None}
use Prim.Native.Nat.{ℕ, ◌+◌, ◌≤◌, ◌<◌}
use native.Mathlib.Omega.{arith}
use mathlib.Core.Path.{◌≡◌, refl, sym, ◌∙◌, ap, subst}
use mathlib.Core.List.{List, [], ◌∷◌, ◌++◌, map}
use lib.Dec.{T, eqb, eqb_refl, eqb→eq, lit<}
use lib.ListN.{length, get_or, length-map, get_or-map}
use Rattle.bitvec.proofs.Base.{by_le}
use Rattle.btor2.specs.declared.NodeType.{NodeType}
use Rattle.btor2.specs.declared.NodeType.TheVariants.{Bit, Word, Memory, Input1Byte, Input2Byte, Input3Byte, Input4Byte, Input5Byte, Input6Byte, Input7Byte}
use Rattle.btor2.specs.Sort.{sort_number, sort_or_none}
use Rattle.btor2.specs.Op.{Op, carried, identifiers}
use Rattle.btor2.specs.SortRule.{has_sort}
use Rattle.btor2.proofs.LineIs.{line_is}
use Rattle.btor2_list.specs.Record.{words_for}
use Rattle.btor2_list.specs.Node.{Node, no_node}
use Rattle.btor2_list.specs.View.{view}
use Rattle.btor2_list.specs.Look.{look_at}
use Rattle.btor2_list.proofs.View.{view-length}
use Rattle.btor2_list.proofs.Seen.{look_line, look_past}
use Rattle.state.specs.RolesFit.{value_sort}
use Rattle.lowering_laws.specs.Lines.{numbered}
use Rattle.meaning.specs.Lines.{operators}
use Rattle.meaning.proofs.Behind.{inside}

pub operators-length : (ws : List ℕ) (n : ℕ) → length (operators ws n) ≡ n
unfolding operators
operators-length ws n = length-map (view ws n) (λ line. line.op) ∙ view-length ws n

-- lines under identifiers are the lines
pub numbered_operators : (w : Option ℕ) (nid : ℕ) (os : List (Op ℕ)) → map (λ line. line.op) (numbered w nid os) ≡ os
unfolding numbered
numbered_operators w nid [] = refl
numbered_operators w nid (o ∷ os) = ap (λ l. o ∷ l) (numbered_operators w (nid + identifiers o) os)

pub map-append : (l m : List Node) → map (λ line. line.op) (l ++ m) ≡ map (λ line. line.op) l ++ map (λ line. line.op) m
map-append [] m = refl
map-append (x ∷ l) m = ap (λ r. x.op ∷ r) (map-append l m)

-- ---- a lookup

positive : (s : NodeType) → 0 < sort_number s
positive Bit = lit< tt
positive Word = lit< tt
positive Memory = lit< tt
positive Input1Byte = lit< tt
positive Input2Byte = lit< tt
positive Input3Byte = lit< tt
positive Input4Byte = lit< tt
positive Input5Byte = lit< tt
positive Input6Byte = lit< tt
positive Input7Byte = lit< tt

seen_is : (m : Option NodeType) (s : NodeType) → sort_or_none m ≡ sort_number s → T (has_sort s m)
seen_is (Some t) s e = subst (λ (k : ℕ). T (eqb (sort_number s) k)) (sym e) (eqb_refl (sort_number s))
seen_is None s e = absurd (omega (arith, positive s))

pub look_is : (ws : List ℕ) (n : ℕ) → words_for n ≤ length ws → (p : ℕ) (s : NodeType) → value_sort (look_at ws n p) ≡ sort_number s → T (line_is s (operators ws n) p)
unfolding line_is operators
look_is ws n room p s e =
    by_le n p
    (λ h. absurd (omega (arith, positive s, sym (ap value_sort (look_past ws n room p h)) ∙ e)))
    (λ h.
    subst (λ (o : Op ℕ). T (has_sort s (carried o))) (sym (get_or-map (λ (line : Node). line.op) (view ws n) p no_node))
    (seen_is (carried (get_or (view ws n) p no_node).op) s (sym (ap value_sort (look_line ws n room p no_node h)) ∙ e)))

-- and back
is_seen : (m : Option NodeType) (s : NodeType) → T (has_sort s m) → sort_or_none m ≡ sort_number s
is_seen (Some t) s h = sym (eqb→eq (sort_number s) (sort_number t) h)
is_seen None s h = absurd h

pub is_look : (ws : List ℕ) (n : ℕ) → words_for n ≤ length ws → (p : ℕ) (s : NodeType) → T (line_is s (operators ws n) p) → value_sort (look_at ws n p) ≡ sort_number s
unfolding line_is operators
is_look ws n room p s h =
    ap value_sort (look_line ws n room p no_node (rw (operators-length ws n) at (inside s (operators ws n) p h)))
    ∙ is_seen (carried (get_or (view ws n) p no_node).op) s
    (subst (λ (o : Op ℕ). T (has_sort s (carried o))) (get_or-map (λ (line : Node). line.op) (view ws n) p no_node) h)
