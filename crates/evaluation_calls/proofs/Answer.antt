-- The answer, by the tests before the first visit. Assumes nothing.
use Rattle.std.proofs.Common.{◌≡◌, ℕ, ◌<◌, ◌≤◌, ◌⊎◌, inl, inr, Bool, true, false, ◌||◌, ltb, List, length, get_or, sym, refl, ap, ◌∙◌, true≢false, arith, ltb-false, le-ltb, lt-ltb, Option, Some, None}
use Rattle.btor2.specs.declared.NodeType.{NodeType}
use Rattle.btor2.specs.declared.NodeType.TheVariants.{Bit, Word, Memory, Input1Byte, Input2Byte, Input3Byte, Input4Byte, Input5Byte, Input6Byte, Input7Byte}
use mathlib.Core.Bool as B
use lib.ListN.{get_or-eq_default}
use Rattle.bitvec.proofs.Truth.{neither}
use Rattle.bitvec.proofs.Base.{by_le}
use Rattle.btor2.specs.Op.{unknown, carried}
use Rattle.btor2.specs.SortRule.{has_sort}
use Rattle.btor2_list.specs.Record.{capacity}
use Rattle.btor2_list.specs.View.{view}
use Rattle.btor2_list.specs.Look.{look_at}
use Rattle.list_check.specs.Lines.{ops, some}
use Rattle.list_check.proofs.Formed.{op_at_lem, ops-length}
use Rattle.list_check.specs.Broken.{line_broken, broken_words}
use Rattle.evaluation.specs.Answer.{Evaluated, Refused}
use Rattle.evaluation.specs.Evaluation.{bench_lines, unfit_asked, most_visits, Looks, looks_of, no_looks, looks, unfit, evaluated_within, evaluated}
use Rattle.evaluation_calls.specs.declared.Bench.{Bench}
use Rattle.evaluation_calls.specs.Inside.{env_of, num_from}
use Rattle.evaluation_calls.proofs.Walked.{kept}

-- a lookup in the list tells the sort of the line
looked_sort : (ws : List ℕ) (n p : ℕ) → n ≤ capacity (length ws) → carried (get_or (ops (view ws n)) p unknown) ≡ (look_at ws n p).sort
unfolding carried
looked_sort ws n p room =
    by_le n p
    (λ h.
    let past : length (ops (view ws n)) ≤ p = rw (ops-length ws n) h in
    ap carried (get_or-eq_default (ops (view ws n)) unknown past) ∙ rw (le-ltb p n h))
    (λ h.
    let there : p < capacity (length ws) = omega arith in
    ap carried (op_at_lem ws n p h) ∙ rw (lt-ltb p n h, lt-ltb p (capacity (length ws)) there))

-- a sort that may be asked for
abbrev pub askable : Option NodeType → Bool
askable m = has_sort Bit m || has_sort Word m

pub askable_is : (s : NodeType) → (s ≡ Bit) ⊎ (s ≡ Word) → askable (Some s) ≡ true
askable_is s (inl e) = rw e
askable_is s (inr e) = rw e

pub not_askable : (s : NodeType) → (s ≡ Bit → ⊥) → (s ≡ Word → ⊥) → askable (Some s) ≡ false
not_askable Bit p q = absurd (p refl)
not_askable Word p q = absurd (q refl)
not_askable Memory p q = refl
not_askable Input1Byte p q = refl
not_askable Input2Byte p q = refl
not_askable Input3Byte p q = refl
not_askable Input4Byte p q = refl
not_askable Input5Byte p q = refl
not_askable Input6Byte p q = refl
not_askable Input7Byte p q = refl

module _ (b : Bench) (n p : ℕ) where
  abbrev ws : List ℕ
  ws = b.list.now

  abbrev answer : Evaluated
  answer = evaluated ws n b.values.now b.memory.now p

  refused_unfit : unfit ws n p ≡ true → Refused unfit_asked ≡ answer
  unfolding evaluated_within
  refused_unfit e = rw e

  pub too_long : bench_lines < n → Refused unfit_asked ≡ answer
  unfolding unfit
  too_long h = refused_unfit (rw (lt-ltb bench_lines n h))

  pub not_well : broken_words ws n ≡ true → Refused unfit_asked ≡ answer
  unfolding unfit
  not_well h = refused_unfit (go (ltb bench_lines n) (broken_words ws n) _ h)
    where
      go : (a b c : Bool) → b ≡ true → (a || (b || c)) ≡ true
      go true b c e = refl
      go false b c e = rw e

  -- a list that is short and not broken, and the sort that the asked line has in it
  pub record Asked (m : Option NodeType) : Type 0 where
    pub short : n ≤ bench_lines
    pub well : broken_words ws n ≡ false
    pub sort : (look_at ws n p).sort ≡ m

  module _ {m : Option NodeType} (a : Asked m) where
    -- the words hold the lines, where none is broken
    room : n ≤ capacity (length ws)
    room = ltb-false (capacity (length ws)) n (neither (ltb (capacity (length ws)) n) (some n (line_broken (ops (view ws n)))) a.well).0

    by_sort : unfit ws n p ≡ B.not (askable m)
    unfolding unfit
    by_sort = rw (le-ltb bench_lines n a.short, a.well, looked_sort ws n p room, a.sort)

    pub asked_other : askable m ≡ false → Refused unfit_asked ≡ answer
    asked_other h = refused_unfit (by_sort ∙ ap B.not h)

    below : askable m ≡ true → p < n
    below h =
        by_le n p
        (λ l.
        let z : (look_at ws n p).sort ≡ None = rw (le-ltb p n l) in
        absurd (true≢false (sym h ∙ ap askable (sym a.sort ∙ z))))
        (λ l. l)

    pub answered : (R : Evaluated) → askable m ≡ true → R ≡ num_from b p 0 → R ≡ answer
    unfolding evaluated_within num_from looks
    answered R h e =
        rw (by_sort ∙ ap B.not h)
        (e ∙ ap (λ (k : Looks). k.num 0) (kept Looks no_looks (looks_of most_visits (env_of b)) ws (capacity (length ws)) n p (below h) room))
