-- A line that is visited: below the most visits and where it meets the sort rule, what it comes to is what its operands come to. Assumes nothing.
use Rattle.std.proofs.Common.{◌≡◌, ℕ, ◌+◌, ◌<◌, ◌≤◌, Bool, true, false, ◌&&◌, ◌||◌, List, [], length, sym, refl, ap, ◌∙◌, ap₂, arith, le-ltb, lt-ltb}
use mathlib.Core.Path.{fun_ext}
use lib.ListN.{get_or-eq_default}
use Rattle.bitvec.proofs.Base.{by_le}
use Rattle.btor2.specs.declared.NodeType.{NodeType}
use Rattle.btor2.specs.declared.NodeType.TheVariants.{Bit, Word, Memory}
use Rattle.btor2.specs.Sort.{same_sort}
use Rattle.btor2.specs.Op.{Op, map_op, const, read, write, bin, uext, ite, eq, and, or, not, state, state_init, next, input, bad, unknown}
use Rattle.btor2.specs.SortRule.{Mark, mark_of, is, rule, Judged, judge}
use Rattle.btor2.specs.Value.{Env}
use Rattle.btor2.specs.Walk.{walk}
use Rattle.btor2.proofs.Op.{map_op-map_op, mark_map}
use Rattle.btor2_list.specs.Record.{capacity}
use Rattle.btor2_list.specs.View.{view}
use Rattle.list_check.specs.Lines.{ops}
use Rattle.sort_check.specs.Marks.{mark_at}
use Rattle.evaluation.specs.Answer.{Refused}
use Rattle.evaluation.specs.Evaluation.{ill_sorted, too_many_visits, most_visits, Looks, look_of, looks_of, no_looks, looks, looks_at}
use Rattle.evaluation_calls.specs.Inside.{said_at, all_of}
use Rattle.evaluation_calls.proofs.Walked.{first, kept, at, long}
use Rattle.evaluation_calls.proofs.Parts.{two, Parts, parts, earlier, mark_before, mark_after}

pub first_or : (P : Type 0) (a b c d : Bool) → ((a && b) || (c && d)) ≡ true → (a ≡ true → b ≡ true → P) → (c ≡ true → d ≡ true → P) → P
first_or P true true c d e l r = l refl refl
first_or P true false c d e l r = r (two c d e).0 (two c d e).1
first_or P false b c d e l r = r (two c d e).0 (two c d e).1

init_or : (P : Type 0) (a c d : Bool) → (a || (c && d)) ≡ true → (a ≡ true → P) → (d ≡ true → P) → P
init_or P true c d e l r = l refl
init_or P false c d e l r = r (two c d e).1

-- two maps that agree on a line's operands
module _ (f : ℕ → Mark) (g h : ℕ → Looks) (same : (s : NodeType) (q : ℕ) → is s (f q) ≡ true → g q ≡ h q) where
  pub agree : (o : Op ℕ) → Parts f o → map_op g o ≡ map_op h o
  unfolding map_op
  agree (const s n) e = refl
  agree (read m a) e = ap₂ read (same Memory m e.0) (same Word a e.1)
  agree (write m a v) e = rw (same Memory m e.0, same Word a e.1, same Word v e.2)
  agree (bin o a b) e = rw (same Word a e.0, same Word b e.1)
  agree (uext s a) e = rw (same s a e.1)
  agree (ite s c a b) e = rw (same Bit c e.0, same s a e.1, same s b e.2)
  agree (eq a b) e =
      first_or _ (is Bit (f a)) (is Bit (f b)) (is Word (f a)) (is Word (f b)) e (λ x y. rw (same Bit a x, same Bit b y)) (λ x y. rw (same Word a x, same Word b y))
  agree (and s a b) e = rw (same s a e.1, same s b e.2)
  agree (or s a b) e = rw (same s a e.1, same s b e.2)
  agree (not s a) e = rw (same s a e.1)
  agree (state s m) e = refl
  agree (state_init s a m) e = init_or _ (is s (f a)) (same_sort s Memory) (is Word (f a)) e (λ x. rw (same s a x)) (λ x. rw (same Word a x))
  agree (next s a b) e = rw (same s a e.1, same s b e.2)
  agree (input s m) e = refl
  agree (bad a m) e = rw (same Bit a e)
  agree unknown e = absurd e

module _ (env : Env) (ws : List ℕ) where
  abbrev pub before : ℕ → ℕ → Looks
  before n q = first Looks no_looks (looks_of most_visits env) ws n q

  mark_of_lem : (n q : ℕ) → q < n → (before n q).judged.mark ≡ mark_of (said_at ws q)
  unfolding looks_of judge
  mark_of_lem n q h = ap (λ (l : Looks). l.judged.mark) (at Looks no_looks (looks_of most_visits env) ws n q h) ∙ mark_map (λ (l : Looks). l.judged) (map_op (before q) (said_at ws q)) ∙ mark_map (before q) (said_at ws q)

  module _ (p : ℕ) (held : p < capacity (length ws)) where
    marks : (q : ℕ) → (before p q).judged.mark ≡ mark_at ws p q
    marks q =
        by_le p q
        (λ h.
        let past : length (walk Looks no_looks (looks_of most_visits env) [] (ops (view ws p))) ≤ q = rw (long Looks no_looks (looks_of most_visits env) ws p) h in
        ap (λ (l : Looks). l.judged.mark) (get_or-eq_default (walk Looks no_looks (looks_of most_visits env) [] (ops (view ws p))) no_looks past) ∙ sym (mark_after ws p held q h))
        (λ h. mark_of_lem p q h ∙ sym (mark_before ws p held q h))

    rules : (judge p (map_op (λ (l : Looks). l.judged) (map_op (before p) (said_at ws p)))).right ≡ rule (map_op (mark_at ws p) (said_at ws p))
    unfolding judge
    rules =
        ap rule
        (map_op-map_op (λ (j : Judged). j.mark) (λ (l : Looks). l.judged) (map_op (before p) (said_at ws p))
        ∙ map_op-map_op (λ (l : Looks). l.judged.mark) (before p) (said_at ws p)
        ∙ ap (λ (f : ℕ → Mark). map_op f (said_at ws p)) (fun_ext marks))

    whole : looks_at most_visits env (all_of ws) p ≡ looks_of most_visits env p (map_op (before p) (said_at ws p))
    unfolding looks
    whole = at Looks no_looks (looks_of most_visits env) ws (capacity (length ws)) p held

    operands : rule (map_op (mark_at ws p) (said_at ws p)) ≡ true → map_op (before p) (said_at ws p) ≡ map_op (looks_at most_visits env (all_of ws)) (said_at ws p)
    unfolding looks
    operands r =
        agree (mark_at ws p) (before p) (looks_at most_visits env (all_of ws))
        (λ s q e. sym (kept Looks no_looks (looks_of most_visits env) ws (capacity (length ws)) p q (earlier ws p held s q e).0 (omega arith)))
        (said_at ws p)
        (parts (mark_at ws p) (said_at ws p) r)

    -- a visit past the most visits, one of a line that breaks the rule, and another
    pub num_over : (v : ℕ) → most_visits ≤ v → (looks_at most_visits env (all_of ws) p).num v ≡ Refused too_many_visits
    unfolding looks_of
    num_over v l = ap (λ (k : Looks). k.num v) whole ∙ rw (le-ltb v most_visits l)

    pub cell_over : (a v : ℕ) → most_visits ≤ v → (looks_at most_visits env (all_of ws) p).cell a v ≡ Refused too_many_visits
    unfolding looks_of
    cell_over a v l = ap (λ (k : Looks). k.cell a v) whole ∙ rw (le-ltb v most_visits l)

    pub num_broken : (v : ℕ) → v < most_visits → rule (map_op (mark_at ws p) (said_at ws p)) ≡ false → (looks_at most_visits env (all_of ws) p).num v ≡ Refused ill_sorted
    unfolding looks_of
    num_broken v l r = ap (λ (k : Looks). k.num v) whole ∙ rw (lt-ltb v most_visits l, rules ∙ r)

    pub cell_broken : (a v : ℕ) → v < most_visits → rule (map_op (mark_at ws p) (said_at ws p)) ≡ false → (looks_at most_visits env (all_of ws) p).cell a v ≡ Refused ill_sorted
    unfolding looks_of
    cell_broken a v l r = ap (λ (k : Looks). k.cell a v) whole ∙ rw (lt-ltb v most_visits l, rules ∙ r)

    pub num_in : (v : ℕ) → v < most_visits → rule (map_op (mark_at ws p) (said_at ws p)) ≡ true
        → (looks_at most_visits env (all_of ws) p).num v ≡ (look_of env p (map_op (looks_at most_visits env (all_of ws)) (said_at ws p))).num (v + 1)
    unfolding looks_of
    num_in v l r =
        ap (λ (k : Looks). k.num v) whole ∙ rw (lt-ltb v most_visits l, rules ∙ r) (ap (λ (o : Op Looks). (look_of env p o).num (v + 1)) (operands r))

    pub cell_in : (a v : ℕ) → v < most_visits → rule (map_op (mark_at ws p) (said_at ws p)) ≡ true
        → (looks_at most_visits env (all_of ws) p).cell a v ≡ (look_of env p (map_op (looks_at most_visits env (all_of ws)) (said_at ws p))).cell a (v + 1)
    unfolding looks_of
    cell_in a v l r =
        ap (λ (k : Looks). k.cell a v) whole ∙ rw (lt-ltb v most_visits l, rules ∙ r) (ap (λ (o : Op Looks). (look_of env p o).cell a (v + 1)) (operands r))
