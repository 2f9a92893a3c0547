-- A record that is put at a place is read there, and every other word is as it was. Assumes nothing.
use Rattle.std.specs.Prelude.{Option, None, Some}
use Prim.Native.Nat.{ℕ, zero, suc, ◌+◌, ◌*◌, ◌≤◌, ◌<◌}
use mathlib.Core.Path.{◌≡◌, refl, sym, ap, ◌∙◌}
use mathlib.Core.Bool.{Bool, true, false, cond, ◌||◌}
use mathlib.Core.Logic.{◌⊎◌, inl, inr, ⊎_elim}
use mathlib.Core.List.{List, [], ◌∷◌}
use native.Mathlib.Omega.{arith}
use native.Mathlib.Nat.{add-zero, zero-add}
use borrow.Author.Tests.{ltb-true, eqb-true, lt-ltb, le-ltb, ne_eqb}
use lib.Dec.{eqb}
use lib.ListN.{length, get_or, set, length-set}
use lib.Seq.{sets, length-sets, get_or-set_same, get_or-set_other}
use Rattle.bitvec.proofs.Truth.{neither}
use Rattle.bitvec.proofs.Base.{by_le}
use Rattle.btor2.specs.declared.NodeType.{NodeType}
use Rattle.btor2.specs.Sort.{sort_number, first_numbered, sorts, sort_numbered}
use Rattle.btor2.proofs.Sort.{number_small}
use Rattle.btor2_list.specs.declared.Line.{Line}
use Rattle.btor2_list.specs.Record.{stride, kind_in, sort_in, area_in, init_in, address_mark_in, nid_in, saturated, most_in_byte, most_in_nid, mark, head_of, address_mark, marked, address_word, address_by, has_name, words, word, record_at, holds, put_at, capacity, words_for}
use Rattle.btor2_list.specs.Node.{node, operator_at, operators_by_kind, op_of, node_of}
use Rattle.btor2_list.proofs.NoKind.{outside}

-- ---- a run of words

pub below : (vs l : List ℕ) (i j : ℕ) → j < i → get_or (sets l i vs) j 0 ≡ get_or l j 0
below [] l i j h = refl
below (a ∷ vs) l i j h = below vs (set l i a) (suc i) j (omega arith) ∙ get_or-set_other l i j a 0 (λ e. omega arith)

pub above : (vs l : List ℕ) (i j : ℕ) → i + length vs ≤ j → get_or (sets l i vs) j 0 ≡ get_or l j 0
above [] l i j h = refl
above (a ∷ vs) l i j h = above vs (set l i a) (suc i) j (omega arith) ∙ get_or-set_other l i j a 0 (λ e. omega arith)

pub within : (vs l : List ℕ) (i k : ℕ) → k < length vs → i + length vs ≤ length l → get_or (sets l i vs) (i + k) 0 ≡ get_or vs k 0
within [] l i k h r = let z : ◌≡◌ {A = ℕ} 0 1 = omega arith in omega arith
within (a ∷ vs) l i zero h r = rw add-zero (below vs (set l i a) (suc i) i (omega arith) ∙ get_or-set_same l i a 0 (omega arith))
within (a ∷ vs) l i (suc k) h r =
    let e : i + suc k ≡ suc i + k = omega arith in
    rw e (within vs (set l i a) (suc i) k (omega arith) (simp length-set (omega arith)))

-- ---- a record

-- two records whose words agree are equal
pub same_words : (ws vs : List ℕ) (p q : ℕ) → ((k : ℕ) → k < stride → word ws p k ≡ word vs q k) → record_at ws p ≡ record_at vs q
unfolding record_at
same_words ws vs p q h = rw (h 0 (omega arith), h 1 (omega arith), h 2 (omega arith), h 3 (omega arith), h 4 (omega arith))

-- ---- a record is read as the line that it was written from, where its identifier and the area of its name fit their fields. Numbers of
-- kinds and sorts that do not fit are read as others that name no kind and no sort either, and the fields that share words are not both used.

pub record LineFits (l : Line) : Type 0 where
  pub nid : l.nid.0 ≤ most_in_nid
  pub area : l.name.area ≤ most_in_byte

at_most : (most n : ℕ) → saturated most n ≤ most
at_most most n = by_le (suc most) n (λ l. rw (lt-ltb most n l) (omega arith)) (λ l. rw (le-ltb most n (omega arith)) (omega arith))

kept : (most n : ℕ) → n ≤ most → saturated most n ≡ n
kept most n h = rw (le-ltb most n h)

-- the fields of a first word
record Back (k s a i m n head : ℕ) : Type 0 where
  kind : kind_in head ≡ k
  sort : sort_in head ≡ s
  area : area_in head ≡ a
  init : init_in head ≡ i
  address : address_mark_in head ≡ m
  nid : nid_in head ≡ n

fields_back : (k s a i m n : ℕ) → k < 256 → s < 256 → a < 256 → i < 16 → m < 16 → Back k s a i m n (k + 256 * s + 65536 * a + 16777216 * i + 4294967296 * n + 268435456 * m)
fields_back k s a i m n hk hs ha hi hm = record { kind = omega arith; sort = omega arith; area = omega arith; init = omega arith; address = omega arith; nid = omega arith }

mark_small : (w : Option ℕ) → address_mark w < 16
mark_small (Some a) = omega arith
mark_small None = omega arith

head_back : (k s a i n : ℕ) (w : Option ℕ) → Back (saturated most_in_byte k) (saturated most_in_byte s) (saturated most_in_byte a) (saturated mark i) (address_mark w) (saturated most_in_nid n) (marked (head_of k s a i n) w)
head_back k s a i n w =
    fields_back (saturated most_in_byte k) (saturated most_in_byte s) (saturated most_in_byte a) (saturated mark i) (address_mark w) (saturated most_in_nid n)
    (omega (arith, at_most most_in_byte k)) (omega (arith, at_most most_in_byte s)) (omega (arith, at_most most_in_byte a)) (omega (arith, at_most mark i)) (mark_small w)

-- a first word that is made has no mark yet
pub no_mark : (k s a i n : ℕ) → address_mark_in (head_of k s a i n) ≡ 0
no_mark k s a i n = rw (add-zero (head_of k s a i n)) at (head_back k s a i n None).address

address_back : (w : Option ℕ) → address_by (address_mark w) (address_word w) ≡ w
address_back (Some a) = refl
address_back None = refl

no_sort_lem : (ss : List NodeType) (n : ℕ) → 17 < n → first_numbered ss n ≡ None
no_sort_lem [] n h = refl
no_sort_lem (s ∷ ss) n h = rw (ne_eqb n (sort_number s) (λ e. omega (arith, number_small s))) (no_sort_lem ss n h)

any_sort : (n : ℕ) → sort_numbered (saturated most_in_byte n) ≡ sort_numbered n
any_sort n = by_le 256 n (λ l. rw (lt-ltb most_in_byte n l) (sym (no_sort_lem sorts n (omega arith)))) (λ l. ap sort_numbered (kept most_in_byte n (omega arith)))

-- the mark is 0 where there is no init
any_mark : (i : ℕ) → eqb (saturated mark i) 0 ≡ eqb i 0
any_mark i = by_le 2 i (λ l. rw (lt-ltb mark i l, ne_eqb i 0 (λ e. omega arith))) (λ l. ap (λ (n : ℕ). eqb n 0) (kept mark i (omega arith)))

either : (a b : Bool) → (a || b) ≡ true → (a ≡ true) ⊎ (b ≡ true)
either true b e = inl refl
either false b e = inr e

module _ (l : Line) (fits : LineFits l) where
  -- the record that is read, with these numbers for its kind and its sort
  abbrev read : ℕ → ℕ → Line
  read kind sort = record {
    nid = l.nid;
    kind = kind;
    sort = sort;
    op1 = record { 0 = cond (eqb l.kind 1) l.imm l.op1.0 };
    op2 = record { 0 = cond (has_name l.kind) l.name.at l.op2.0 };
    op3 = record { 0 = cond (has_name l.kind) l.name.len l.op3.0 };
    imm = cond (eqb kind 19) (saturated mark (cond (eqb l.kind 19) l.imm 0)) (cond (eqb l.kind 1) l.imm l.op1.0);
    name = record { area = l.name.area; at = cond (has_name l.kind) l.name.at l.op2.0; len = cond (has_name l.kind) l.name.len l.op3.0 };
    address = l.address;
  }

  reads : record_at (words l) 0 ≡ read (saturated most_in_byte l.kind) (saturated most_in_byte l.sort)
  unfolding record_at
  reads =
      let back = head_back l.kind l.sort l.name.area (cond (eqb l.kind 19) l.imm 0) l.nid.0 l.address in
      rw (back.kind, back.sort, back.area, back.init, back.address, back.nid, address_back l.address, kept most_in_byte l.name.area fits.area, kept most_in_nid l.nid.0 fits.nid)

  of_a_const : l.kind ≡ 1 → node_of (read l.kind l.sort) ≡ node_of l
  unfolding op_of
  of_a_const e = rw e

  of_a_name : has_name l.kind ≡ true → node_of (read l.kind l.sort) ≡ node_of l
  unfolding op_of
  of_a_name e =
      let k = l.kind in
      rw e
      (⊎_elim (λ h. rw (eqb-true k 19 h, any_mark l.imm))
      (λ g. ⊎_elim (λ h. rw (eqb-true k 21 h)) (λ h. rw (eqb-true k 22 h)) (either (eqb k 21) (eqb k 22) g))
      (either (eqb k 19) (eqb k 21 || eqb k 22) e))

  of_operands : eqb l.kind 1 ≡ false → has_name l.kind ≡ false → node_of (read l.kind l.sort) ≡ node_of l
  unfolding op_of
  of_operands h e =
      let k = l.kind in
      let n19 = neither (eqb k 19) (eqb k 21 || eqb k 22) e in
      let n21 = neither (eqb k 21) (eqb k 22) n19.1 in
      rw (h, e, n19.0, n21.0, n21.1)

  of_a_kind : node_of (read l.kind l.sort) ≡ node_of l
  of_a_kind = go (eqb l.kind 1) (has_name l.kind) refl refl
    where
      go : (c n : Bool) → eqb l.kind 1 ≡ c → has_name l.kind ≡ n → node_of (read l.kind l.sort) ≡ node_of l
      go true n h e = of_a_const (eqb-true l.kind 1 h)
      go false true h e = of_a_name e
      go false false h e = of_operands h e

  of_a_sort : (k : ℕ) → node_of (read k (saturated most_in_byte l.sort)) ≡ node_of (read k l.sort)
  unfolding op_of
  of_a_sort k = ap (λ (s : Option NodeType). node l.address l.nid.0 (operator_at (operators_by_kind s (read k l.sort)) 1 k)) (any_sort l.sort)

  of_no_kind : 256 ≤ l.kind → node_of (read (saturated most_in_byte l.kind) l.sort) ≡ node_of l
  of_no_kind h = rw (lt-ltb most_in_byte l.kind h, outside l (λ _. omega arith), outside (read most_in_byte l.sort) (λ _. omega arith))

  own_node : node_of (record_at (words l) 0) ≡ node_of l
  own_node =
      ap node_of reads
      ∙ of_a_sort (saturated most_in_byte l.kind)
      ∙ by_le 256 l.kind of_no_kind (λ h. ap (λ (k : ℕ). node_of (read k l.sort)) (kept most_in_byte l.kind (omega arith)) ∙ of_a_kind)

-- ---- put

module _ (ws : List ℕ) (p : ℕ) (l : Line) where
  pub put_length : length (put_at ws p l) ≡ length ws
  put_length = go (holds ws p)
    where
      go : (t : Bool) → length (cond t (sets ws (words_for p) (words l)) ws) ≡ length ws
      go true = length-sets ws (words_for p) (words l)
      go false = refl

  pub put_elsewhere_below : (k : ℕ) → k < words_for p → get_or (put_at ws p l) k 0 ≡ get_or ws k 0
  put_elsewhere_below k h = go (holds ws p)
    where
      go : (t : Bool) → get_or (cond t (sets ws (words_for p) (words l)) ws) k 0 ≡ get_or ws k 0
      go true = below (words l) ws (words_for p) k h
      go false = refl

  pub put_elsewhere_above : (k : ℕ) → words_for p + stride ≤ k → get_or (put_at ws p l) k 0 ≡ get_or ws k 0
  put_elsewhere_above k h = go (holds ws p)
    where
      go : (t : Bool) → get_or (cond t (sets ws (words_for p) (words l)) ws) k 0 ≡ get_or ws k 0
      go true = above (words l) ws (words_for p) k h
      go false = refl

  pub put_node : holds ws p ≡ true → LineFits l → node_of (record_at (put_at ws p l) p) ≡ node_of l
  put_node there fits =
      let room : p < capacity (length ws) = ltb-true _ _ there in
      rw there
      (ap node_of (same_words (sets ws (words_for p) (words l)) (words l) p 0 (λ k h. rw zero-add (within (words l) ws (words_for p) k h (omega arith))))
      ∙ own_node l fits)

  pub put_other : (q : ℕ) → q < p → record_at (put_at ws p l) q ≡ record_at ws q
  put_other q h = same_words (put_at ws p l) ws q q (λ k r. put_elsewhere_below (words_for q + k) (omega arith))
