-- Records by their kinds and by their operands, the number of a sort, a sort that is unknown, and a State's rows. Assumes nothing.
use Rattle.std.proofs.Common.{◌≡◌, ℕ, ◌+◌, ◌%◌, ◌^◌, Bool, true, false, true≢false, cond, ◌||◌, eqb, List, [], ◌∷◌, ◌++◌, sym, refl, ap, ◌∙◌, append-nil, arith, eqb-true, Option, Some, None}
use Rattle.btor2.specs.declared.NodeType.{NodeType}
use Rattle.btor2.specs.Sort.{sort_number, first_numbered, sorts, sort_numbered}
use Rattle.btor2.specs.declared.Name.{Name}
use Rattle.btor2.specs.Op.{Op, state, state_init, unknown, map_op}
use Rattle.btor2_list.specs.declared.Line.{Line}
use Rattle.btor2_list.specs.Node.{with_sort, operator_at, operators_by_kind, op_of}
use Rattle.line_text.specs.OwnSort.{own_sort}
use Rattle.line_text.specs.Record.{plain_row, named_row, line_text, with_operands}

-- a record with another kind
abbrev pub of_kind : ℕ → Line → Line
of_kind k l = record { nid = l.nid; kind = k; sort = l.sort; op1 = l.op1; op2 = l.op2; op3 = l.op3; imm = l.imm; name = l.name; address = l.address }

-- ---- the number of a sort

one_number : (t s : NodeType) (n : ℕ) (rest : Option NodeType) → (rest ≡ Some s → sort_number s ≡ n) → (b : Bool) → eqb n (sort_number t) ≡ b
    → cond b (Some t) rest ≡ Some s → sort_number s ≡ n
one_number t s n rest others true h e = let i : t ≡ s = cc in ap sort_number (sym i) ∙ sym (eqb-true n (sort_number t) h)
one_number t s n rest others false h e = others e

first_number : (ss : List NodeType) (s : NodeType) (n : ℕ) → first_numbered ss n ≡ Some s → sort_number s ≡ n
first_number [] s n e = let z : ◌≡◌ {A = ℕ} 0 1 = cc in absurd (omega arith)
first_number (t ∷ ss) s n e = one_number t s n (first_numbered ss n) (first_number ss s n) (eqb n (sort_number t)) refl e

pub number_of : (s : NodeType) (n : ℕ) → sort_numbered n ≡ Some s → sort_number s ≡ n
number_of s n e = first_number sorts s n e

-- ---- a sort that is unknown

-- a kind that has a sort of its own, the last of these, and one that has none
own_kind : (test rest : Bool) (p : Op ℕ) → (rest ≡ true → p ≡ unknown) → (test || rest) ≡ true → cond test unknown p ≡ unknown
own_kind true rest p others h = refl
own_kind false rest p others h = others h

last_kind : (test : Bool) (p : Op ℕ) → test ≡ true → cond test unknown p ≡ unknown
last_kind true p h = refl
last_kind false p h = absurd (true≢false (sym h))

other_kind : (test own : Bool) (o p : Op ℕ) → (test ≡ true → own ≡ false) → (own ≡ true → p ≡ unknown) → own ≡ true → cond test o p ≡ unknown
other_kind true own o p off others h = absurd (true≢false (sym h ∙ off refl))
other_kind false own o p off others h = others h

module _ (l : Line) (k : ℕ) where
  of_no_sort : own_sort k ≡ true → operator_at (operators_by_kind None l) 1 k ≡ unknown
  of_no_sort =
      own_kind (eqb k 1) _ _
      (other_kind (eqb k 2) _ _ _ (λ e. rw (eqb-true k 2 e))
      (other_kind (eqb k 3) _ _ _ (λ e. rw (eqb-true k 3 e))
      (other_kind (eqb k 4) _ _ _ (λ e. rw (eqb-true k 4 e))
      (other_kind (eqb k 5) _ _ _ (λ e. rw (eqb-true k 5 e))
      (other_kind (eqb k 6) _ _ _ (λ e. rw (eqb-true k 6 e))
      (other_kind (eqb k 7) _ _ _ (λ e. rw (eqb-true k 7 e))
      (other_kind (eqb k 8) _ _ _ (λ e. rw (eqb-true k 8 e))
      (other_kind (eqb k 9) _ _ _ (λ e. rw (eqb-true k 9 e))
      (other_kind (eqb k 10) _ _ _ (λ e. rw (eqb-true k 10 e))
      (other_kind (eqb k 11) _ _ _ (λ e. rw (eqb-true k 11 e))
      (other_kind (eqb k 12) _ _ _ (λ e. rw (eqb-true k 12 e))
      (own_kind (eqb k 13) _ _
      (own_kind (eqb k 14) _ _
      (other_kind (eqb k 15) _ _ _ (λ e. rw (eqb-true k 15 e))
      (own_kind (eqb k 16) _ _
      (own_kind (eqb k 17) _ _
      (own_kind (eqb k 18) _ _
      (own_kind (eqb k 19) _ _
      (own_kind (eqb k 20) _ _
      (last_kind (eqb k 21) _))))))))))))))))))))

pub unsorted_unknown : (l : Line) → own_sort l.kind ≡ true → sort_numbered l.sort ≡ None → op_of l ≡ unknown
unfolding op_of
unsorted_unknown l own e = rw e (of_no_sort l l.kind own)

-- ---- the text of a State

module _ (names : Name → List ℕ) (l : Line) (a b c : ℕ) where
  abbrev row : List ℕ
  row = named_row l.nid.0 "state" l.sort (names l.name)

  abbrev init : List ℕ
  init = plain_row ((l.nid.0 + 1) % 2 ^ 64) "init" (l.sort ∷ l.nid.0 ∷ a ∷ [])

  pub state_text : (s : NodeType) → l.kind ≡ 19 → sort_numbered l.sort ≡ Some s
      → row ++ cond (eqb l.imm 0) [] init ≡ line_text names l.nid.0 (op_of (with_operands l a b c))
  unfolding op_of line_text
  state_text s ek es = rw (ek, es) (go (eqb l.imm 0))
    where
      go : (t : Bool) → row ++ cond t [] init ≡ line_text names l.nid.0 (cond t (state s l.name) (state_init s a l.name))
      go true = rw (append-nil, number_of s l.sort es)
      go false = rw (number_of s l.sort es)

-- ---- a function of places, over a record

module _ (f : ℕ → ℕ) where
  either : (t : Bool) (o p o' p' : Op ℕ) → o' ≡ map_op f o → p' ≡ map_op f p → cond t o' p' ≡ map_op f (cond t o p)
  either true o p o' p' h h' = h
  either false o p o' p' h h' = h'

  own : (m : Option NodeType) (g g' : NodeType → Op ℕ) → ((s : NodeType) → g' s ≡ map_op f (g s)) → with_sort m g' ≡ map_op f (with_sort m g)
  unfolding map_op
  own (Some s) g g' h = h s
  own None g g' h = refl

  pub by_identifiers : (l : Line) → op_of (with_operands l (f l.op1.0) (f l.op2.0) (f l.op3.0)) ≡ map_op f (op_of l)
  unfolding op_of map_op
  by_identifiers l =
      let m = sort_numbered l.sort in
      let k = l.kind in
      either (eqb k 1) _ _ _ _ (own m _ _ (λ s. refl))
      (either (eqb k 2) _ _ _ _ refl
      (either (eqb k 3) _ _ _ _ refl
      (either (eqb k 4) _ _ _ _ refl
      (either (eqb k 5) _ _ _ _ refl
      (either (eqb k 6) _ _ _ _ refl
      (either (eqb k 7) _ _ _ _ refl
      (either (eqb k 8) _ _ _ _ refl
      (either (eqb k 9) _ _ _ _ refl
      (either (eqb k 10) _ _ _ _ refl
      (either (eqb k 11) _ _ _ _ refl
      (either (eqb k 12) _ _ _ _ refl
      (either (eqb k 13) _ _ _ _ (own m _ _ (λ s. refl))
      (either (eqb k 14) _ _ _ _ (own m _ _ (λ s. refl))
      (either (eqb k 15) _ _ _ _ refl
      (either (eqb k 16) _ _ _ _ (own m _ _ (λ s. refl))
      (either (eqb k 17) _ _ _ _ (own m _ _ (λ s. refl))
      (either (eqb k 18) _ _ _ _ (own m _ _ (λ s. refl))
      (either (eqb k 19) _ _ _ _ (own m _ _ (λ s. either (eqb l.imm 0) _ _ _ _ refl refl))
      (either (eqb k 20) _ _ _ _ (own m _ _ (λ s. refl))
      (either (eqb k 21) _ _ _ _ (own m _ _ (λ s. refl))
      (either (eqb k 22) _ _ _ _ refl
      refl)))))))))))))))))))))
