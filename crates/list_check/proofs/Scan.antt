-- Of the lines of a known kind and sort, the kind tells which carry a value. Assumes nothing.
use Rattle.std.specs.Prelude.{Option, Some, None}
use Prim.Native.Nat.{ℕ, zero, suc, ◌+◌, ◌≤◌, ◌<◌}
use mathlib.Core.Path.{◌≡◌, refl, sym, ◌∙◌, ap, fun_ext}
use mathlib.Core.Bool.{Bool, true, false, cond, ◌||◌}
use mathlib.Core.Bool as B
use mathlib.Core.List.{List}
use native.Mathlib.Decide.{ℕ_discrete}
use native.Mathlib.Numerals.{add-one}
use native.Mathlib.Omega.{arith}
use Rattle.std.proofs.lemmas.Bool.Decides.{nat_tests}
use lib.Dec.{eqb}
use lib.ListN.{length}
use borrow.Author.Tests.{lt-ltb, le-ltb, le-leb, lt-leb, ne_eqb}
use Rattle.bitvec.proofs.Truth.{neither}
use Rattle.bitvec.proofs.Base.{by_le}
use Rattle.btor2.specs.declared.NodeType.{NodeType}
use Rattle.btor2.specs.Sort.{sort_numbered}
use Rattle.btor2.specs.Op.{Op, next, carried}
use Rattle.btor2_list.specs.declared.Line.{Line}
use Rattle.btor2_list.specs.Record.{record_at, capacity}
use Rattle.btor2_list.specs.Node.{with_sort, operator_at, operators_by_kind, op_of}
use Rattle.list_check.specs.declared.Checked.TheVariants.{Unformed}
use Rattle.list_check.specs.Formed.{is_unknown, has_value, op_unformed, unformed_words}
use Rattle.list_check.specs.Lines.{some, past_words}
use Rattle.list_check.specs.Operand.{no_value_at}
use Rattle.list_check.specs.Scan.{out_before, scan_unformed, name_length, scan_line, checked_line}
use Rattle.list_check.proofs.Some.{some_none}
use Rattle.list_check.proofs.Formed.{said, record_unformed, by_records, formed_line}

-- it carries a value unless it is unknown
abbrev Valued : Op ℕ → Type 0
Valued o = B.not (has_value (carried o)) ≡ is_unknown o

-- a Next carries none
no_next : (m : Option NodeType) (a b : ℕ) → B.not (has_value (carried (with_sort m (λ s. next s a b)))) ≡ true
unfolding carried
no_next (Some s) a b = refl
no_next None a b = refl

module _ (l : Line) (n : l.kind ≡ 20 → ⊥) (b : l.kind ≡ 22 → ⊥) where
  known : (s : NodeType) → Valued (operator_at (operators_by_kind (Some s) l) 1 l.kind)
  unfolding carried
  known s = grind (arith, nat_tests)

  not_known : Valued (operator_at (operators_by_kind None l) 1 l.kind)
  unfolding carried
  not_known = grind (arith, nat_tests)

  -- neither a Next nor a Bad
  valued : Valued (op_of l)
  unfolding op_of
  valued = go (sort_numbered l.sort)
    where
      go : (m : Option NodeType) → Valued (operator_at (operators_by_kind m l) 1 l.kind)
      go (Some s) = known s
      go None = not_known

module _ (l : Line) where
  by_kind : is_unknown (op_of l) ≡ false → B.not (has_value (carried (op_of l))) ≡ (eqb l.kind 20 || eqb l.kind 22)
  unfolding op_of carried
  by_kind known = go (ℕ_discrete l.kind 20) (ℕ_discrete l.kind 22)
    where
      go : Dec (l.kind ≡ 20) → Dec (l.kind ≡ 22) → B.not (has_value (carried (op_of l))) ≡ (eqb l.kind 20 || eqb l.kind 22)
      go (yes e) d = rw e (no_next (sort_numbered l.sort) l.op1.0 l.op2.0)
      go (no n) (yes e) = rw e
      go (no n) (no b) =
          let neither : false ≡ (eqb l.kind 20 || eqb l.kind 22) = rw (ne_eqb l.kind 20 n, ne_eqb l.kind 22 b) in valued l n b ∙ known ∙ neither

-- the words hold line i, and each line before it has a known kind and sort
pub record Reached (ws : List ℕ) (i : ℕ) : Type 0 where
  pub held : i < capacity (length ws)
  pub known : (q : ℕ) → q < i → is_unknown (said ws q) ≡ false

-- where a scan has reached a line, its test of an operand is the lookup's
short : (ws : List ℕ) (i : ℕ) → Reached ws i → (q : ℕ) → out_before ws i q ≡ no_value_at ws i q
unfolding record_at
short ws i r q =
    by_le i q
    (λ h. rw (le-ltb q i h, le-leb i q h))
    (λ h.
    let there : q < capacity (length ws) = omega (arith, r.held) in
    let l = record_at ws q in
    rw (lt-ltb q i h, lt-leb i q h, lt-ltb _ _ there) (sym (by_kind l (r.known q h))))

-- and its test of the line is the record's
pub recorded : (ws : List ℕ) (i host ours : ℕ) → Reached ws i → op_unformed host ours (out_before ws i) (said ws i) ≡ record_unformed host ours ws i
recorded ws i host ours r = ap (λ (out : ℕ → Bool). op_unformed host ours out (said ws i)) (fun_ext (short ws i r))

pub scanned : (ws : List ℕ) (i host ours : ℕ) → Reached ws i → scan_unformed ws i host ours ≡ record_unformed host ours ws i
scanned ws i host ours r = rw (lt-ltb _ _ r.held) (recorded ws i host ours r)

-- a scan that has found the lines before a line well formed has reached it
pub reached : (ws : List ℕ) (i host ours : ℕ) → i < capacity (length ws) → some i (record_unformed host ours ws) ≡ false → Reached ws i
reached ws i host ours h none =
    record { held = h; known = λ q l. (formed_line host ours (no_value_at ws q) (said ws q) (some_none i (record_unformed host ours ws) none q l)).0 }

-- the tests of a scan, one line after the other, are the records'
pub scans : (ws : List ℕ) (n host ours : ℕ) → n ≤ capacity (length ws) → some n (λ i. scan_unformed ws i host ours) ≡ some n (record_unformed host ours ws)
unfolding some
scans ws zero host ours room = refl
scans ws (suc n) host ours room = rw (scans ws n host ours (omega arith)) (go (some n (record_unformed host ours ws)) refl)
  where
    go : (t : Bool) → some n (record_unformed host ours ws) ≡ t → (t || scan_unformed ws n host ours) ≡ (t || record_unformed host ours ws n)
    go true e = refl
    go false e = scanned ws n host ours (reached ws n host ours (omega arith) e)

-- so that it finds 11 of the lines up to that line
pub checked : (ws : List ℕ) (i host ours : ℕ) → unformed_words ws i host ours ≡ false → scan_line ws i host ours ≡ checked_line ws i host ours
unfolding some
checked ws i host ours none = ap (λ (t : Bool). cond t Unformed (name_length (record_at ws i))) (by_le (capacity (length ws)) i past_the_words within)
  where
    past_the_words : capacity (length ws) ≤ i → scan_unformed ws i host ours ≡ unformed_words ws (i + 1) host ours
    past_the_words h = let over : capacity (length ws) < i + 1 = omega arith in rw (le-ltb _ _ h, lt-ltb _ _ over)

    within : i < capacity (length ws) → scan_unformed ws i host ours ≡ unformed_words ws (i + 1) host ours
    within h =
        let room : i + 1 ≤ capacity (length ws) = omega arith in
        let before : some i (record_unformed host ours ws) ≡ false = sym (by_records ws i (omega arith) host ours) ∙ (neither (past_words ws i) _ none).1 in
        let one : some (i + 1) (record_unformed host ours ws) ≡ record_unformed host ours ws i = rw (add-one, before) in
        scanned ws i host ours (reached ws i host ours h before) ∙ rw (le-ltb _ _ room) (sym (by_records ws (i + 1) room host ours ∙ one))
