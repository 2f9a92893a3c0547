-- What the sort rule of a line says of its operands: each is an earlier line of a sort. Assumes nothing.
use Rattle.std.proofs.Common.{◌≡◌, ℕ, ◌<◌, ◌≤◌, Bool, true, false, ◌&&◌, ◌||◌, T, List, length, sym, refl, ap, ◌∙◌, true≢false, arith, le-ltb, lt-ltb, Option, Some, None}
use mathlib.Core.Bool as B
use Rattle.bitvec.proofs.Base.{by_le}
use Rattle.btor2.specs.declared.NodeType.{NodeType}
use Rattle.btor2.specs.declared.NodeType.TheVariants.{Bit, Word, Memory}
use Rattle.btor2.specs.Sort.{same_sort}
use Rattle.btor2.specs.Op.{Op, map_op, const, read, write, bin, uext, ite, eq, and, or, not, state, state_init, next, input, bad, unknown, carried}
use Rattle.btor2.specs.SortRule.{Mark, mark_of, has_sort, is, bit_or_word, rule, no_line}
use Rattle.btor2.proofs.Sort.{same_sort_lem}
use Rattle.btor2_list.specs.Record.{capacity}
use Rattle.sort_check.specs.Marks.{mark_at}
use Rattle.evaluation_calls.specs.Inside.{said_at}

pub two : (a b : Bool) → (a && b) ≡ true → (a ≡ true) × (b ≡ true)
two true b e = (refl, e)
two false b e = absurd (true≢false (sym e))

pub three : (a b c : Bool) → (a && (b && c)) ≡ true → (a ≡ true) × (b ≡ true) × (c ≡ true)
three true b c e = (refl, (two b c e).0, (two b c e).1)
three false b c e = absurd (true≢false (sym e))

-- the operands' sorts, where the rule is met; an Eq's, an init's and those of lines that have no value are told apart
abbrev pub Parts : (ℕ → Mark) → Op ℕ → Type 0
Parts f (const s n) = B.not (same_sort s Memory) ≡ true
Parts f (read m a) = (is Memory (f m) ≡ true) × (is Word (f a) ≡ true)
Parts f (write m a v) = (is Memory (f m) ≡ true) × (is Word (f a) ≡ true) × (is Word (f v) ≡ true)
Parts f (bin o a b) = (is Word (f a) ≡ true) × (is Word (f b) ≡ true)
Parts f (uext s a) = (B.not (same_sort s Word || same_sort s Memory) ≡ true) × (is s (f a) ≡ true)
Parts f (ite s c a b) = (is Bit (f c) ≡ true) × (is s (f a) ≡ true) × (is s (f b) ≡ true)
Parts f (eq a b) = ((is Bit (f a) && is Bit (f b)) || (is Word (f a) && is Word (f b))) ≡ true
Parts f (and s a b) = (bit_or_word s ≡ true) × (is s (f a) ≡ true) × (is s (f b) ≡ true)
Parts f (or s a b) = (bit_or_word s ≡ true) × (is s (f a) ≡ true) × (is s (f b) ≡ true)
Parts f (not s a) = (bit_or_word s ≡ true) × (is s (f a) ≡ true)
Parts f (state s m) = Unit
Parts f (state_init s a m) = (is s (f a) || (same_sort s Memory && is Word (f a))) ≡ true
Parts f (next s a b) = ((f a).is_state ≡ true) × (is s (f a) ≡ true) × (is s (f b) ≡ true)
Parts f (input s m) = Unit
Parts f (bad a m) = is Bit (f a) ≡ true
Parts f unknown = ⊥

pub parts : (f : ℕ → Mark) (o : Op ℕ) → rule (map_op f o) ≡ true → Parts f o
unfolding rule map_op
parts f (const s n) e = (two _ _ e).0
parts f (read m a) e = two _ _ e
parts f (write m a v) e = three _ _ _ e
parts f (bin o a b) e = two _ _ e
parts f (uext s a) e = two _ _ e
parts f (ite s c a b) e = three _ _ _ e
parts f (eq a b) e = e
parts f (and s a b) e = three _ _ _ e
parts f (or s a b) e = three _ _ _ e
parts f (not s a) e = two _ _ e
parts f (state s m) e = tt
parts f (state_init s a m) e = e
parts f (next s a b) e = three _ _ _ e
parts f (input s m) e = tt
parts f (bad a m) e = e
parts f unknown e = absurd (true≢false (sym e))

so : (b : Bool) → b ≡ true → T b
so true e = tt
so false e = absurd (true≢false (sym e))

pub has : (s : NodeType) (x : Option NodeType) → has_sort s x ≡ true → x ≡ Some s
has s (Some t) e = ap Some (sym (same_sort_lem s t (so _ e)))
has s None e = absurd (true≢false (sym e))

-- ---- an operand that has a sort is an earlier line of that sort

module _ (ws : List ℕ) (p : ℕ) (held : p < capacity (length ws)) where
  pub mark_before : (q : ℕ) → q < p → mark_at ws p q ≡ mark_of (said_at ws q)
  mark_before q h = let there : q < capacity (length ws) = omega arith in rw (lt-ltb q p h, lt-ltb q (capacity (length ws)) there)

  pub mark_after : (q : ℕ) → p ≤ q → mark_at ws p q ≡ no_line.mark
  mark_after q h = rw (le-ltb q p h)

  pub earlier : (s : NodeType) (q : ℕ) → is s (mark_at ws p q) ≡ true → (q < p) × (carried (said_at ws q) ≡ Some s)
  earlier s q e =
      by_le p q
      (λ h. absurd (true≢false (sym e ∙ ap (is s) (mark_after q h))))
      (λ h. (h, has s (carried (said_at ws q)) (sym (ap (is s) (mark_before q h)) ∙ e)))
