-- The room that a line, and a run of lines, takes at most, where identifiers are in bounds. Assumes nothing.
use Rattle.std.specs.Prelude.{Option, Some, None}
use Prim.Native.Nat.{ℕ, zero, suc, ◌+◌, ◌-◌, ◌*◌, ◌%◌, ◌^◌, ◌≤◌, ◌<◌}
use mathlib.Core.Path.{◌≡◌, refl, ap, ◌∙◌}
use mathlib.Core.Bool.{Bool, true, false, cond, ◌||◌}
use mathlib.Core.List.{List, [], ◌∷◌, ◌++◌}
use native.Mathlib.Decide.{dec_le}
use native.Mathlib.Nat.{add-zero}
use native.Mathlib.Numerals.{add-one}
use native.Mathlib.Omega.{arith}
use lib.Dec.{eqb, leb}
use lib.ListN.{length, take, drop, length-append, length-take}
use borrow.Author.Tests.{lt-ltb}
use Rattle.text.specs.Numeral.{decimal_text}
use Rattle.text.proofs.Laws.{numeral-length}
use Rattle.row_text.proofs.Split.{wider}
use Rattle.btor2.specs.declared.Name.{Name}
use Rattle.btor2.specs.declared.NodeType.{NodeType}
use Rattle.btor2.specs.declared.NodeType.TheVariants.{Bit, Word, Memory, Input1Byte, Input2Byte, Input3Byte, Input4Byte, Input5Byte, Input6Byte, Input7Byte}
use Rattle.btor2.specs.Sort.{sort_number, sort_numbered, width}
use Rattle.btor2.specs.Op.{Bin, add, sub, mul, udiv, sdiv, urem, sll, srl, ult, Op, const, read, write, bin, uext, ite, eq, and, or, not, state, state_init, next, input, bad, unknown, map_op, bin_sort}
use Rattle.btor2_list.specs.declared.Line.{Line}
use Rattle.btor2_list.specs.Record.{has_name, record_at, capacity}
use Rattle.btor2_list.specs.Node.{Node, with_sort, op_of}
use Rattle.text.specs.Ascii.{ascii}
use Rattle.row_text.specs.Row.{name_text, numbers_text, row_text}
use Rattle.line_text.specs.Record.{bin_word, line_text, printed_name}
use Rattle.line_text.specs.Line.{nodes, node_at, nid_at, node_text, run_text}
use Rattle.print.proofs.Each.{Each, none, ◌▹◌, at}
use Rattle.btor2_list.proofs.NoKind.{outside}
use Rattle.line_text.proofs.KnownKinds.{of_kind}
use Rattle.line_text.proofs.Listed.{got}
use Rattle.line_text.proofs.Runs.{run_none, run_on}
use Rattle.print.specs.Printing.{nids_too_large}
use Rattle.list_check.specs.declared.Checked.TheVariants.{Unformed, Unnamed, Named}
use Rattle.list_check.specs.Scan.{scan_unformed, name_length, scan_line}
use Rattle.print.specs.Room.{said, name_room, rooms, RoomWith}
use Rattle.print.proofs.Identifiers.{nid_most}

-- ---- pieces

ten : (x : ℕ) → x < 10000000000 → length (decimal_text x) ≤ 10
ten x h = rw (← wider 9 10 x h) (numeral-length 10 10 x)

two : (x : ℕ) → x < 100 → length (decimal_text x) ≤ 2
two x h = rw (← wider 1 18 x h) (numeral-length 10 2 x)

sort_below : (s : NodeType) → sort_number s < 100
sort_below Bit = omega arith
sort_below Word = omega arith
sort_below Memory = omega arith
sort_below Input1Byte = omega arith
sort_below Input2Byte = omega arith
sort_below Input3Byte = omega arith
sort_below Input4Byte = omega arith
sort_below Input5Byte = omega arith
sort_below Input6Byte = omega arith
sort_below Input7Byte = omega arith

sort_two : (s : NodeType) → length (decimal_text (sort_number s)) ≤ 2
sort_two s = two (sort_number s) (sort_below s)

bin_word_lem : (o : Bin) → length (ascii (bin_word o)) ≤ 4
bin_word_lem add = omega arith
bin_word_lem sub = omega arith
bin_word_lem mul = omega arith
bin_word_lem udiv = omega arith
bin_word_lem sdiv = omega arith
bin_word_lem urem = omega arith
bin_word_lem sll = omega arith
bin_word_lem srl = omega arith
bin_word_lem ult = omega arith

number : (x : ℕ) (xs : List ℕ) → length (numbers_text (x ∷ xs)) ≡ 1 + length (decimal_text x) + length (numbers_text xs)
number x xs = simp length-append (omega arith)

-- a row's length
row : (nid : ℕ) (word numbers : List ℕ) (has_name : Bool) (name : List ℕ) → length (row_text nid word numbers has_name name)
    ≡ length (decimal_text nid) + length word + length (numbers_text numbers) + length (name_text has_name name) + 2
unfolding row_text
row nid word numbers has_name name = simp length-append (omega arith)

either : (b : Bool) (s t : List ℕ) (k : ℕ) → length s ≤ k → length t ≤ k → length (cond b s t) ≤ k
either true s t k h h' = h
either false s t k h h' = h'

part : (s : List ℕ) (at len : ℕ) → length (take len (drop at s)) ≤ 1 + len
part s at len = omega (arith, length-take len (drop at s))

-- a name is printed as its bytes, or as one
name_most : (host ours : List ℕ) (m : Name) → length (printed_name host ours m) ≤ 1 + m.len
unfolding printed_name
name_most host ours m =
    either (eqb m.area 1 || eqb m.area 2) _ _ _
    (either (eqb m.area 1) _ _ _
    (either (leb (m.at + m.len) (length host)) _ _ _ (part host m.at m.len) (omega arith))
    (either (eqb m.area 2) _ _ _ (either (leb (m.at + m.len) (length ours)) _ _ _ (part ours m.at m.len) (omega arith)) (omega arith)))
    (omega arith)

-- ---- a line

module _ (names : Name → List ℕ) (f : ℕ → ℕ) (nid : ℕ) (small : (q : ℕ) → f q < 10000000000) (own : nid + 1 < 10000000000) (short : (m : Name) → length (names m) ≤ 1 + m.len) where
  line_most : (o : Op ℕ) → length (line_text names nid (map_op f o)) ≤ 53 + name_room o
  unfolding line_text map_op
  line_most (const s n) =
      omega (arith, row nid (ascii "constd") ((sort_number s) ∷ (n) ∷ []) false [], ten nid (omega arith), number (sort_number s) ((n) ∷ []), sort_two s, number (n) [], numeral-length 10 20 n)
  line_most (read m a) =
      omega (arith, row nid (ascii "read") ((2) ∷ (f m) ∷ (f a) ∷ []) false [], ten nid (omega arith), number (2) ((f m) ∷ (f a) ∷ []), two 2 (omega arith), number (f m) ((f a) ∷ []), ten (f m) (small m), number (f a) [], ten (f a) (small a))
  line_most (write m a v) =
      omega (arith, row nid (ascii "write") ((3) ∷ (f m) ∷ (f a) ∷ (f v) ∷ []) false [], ten nid (omega arith), number (3) ((f m) ∷ (f a) ∷ (f v) ∷ []), two 3 (omega arith), number (f m) ((f a) ∷ (f v) ∷ []), ten (f m) (small m), number (f a) ((f v) ∷ []), ten (f a) (small a), number (f v) [], ten (f v) (small v))
  line_most (bin o a b) =
      omega (arith, row nid (ascii (bin_word o)) ((sort_number (bin_sort o)) ∷ (f a) ∷ (f b) ∷ []) false [], ten nid (omega arith), number (sort_number (bin_sort o)) ((f a) ∷ (f b) ∷ []), sort_two (bin_sort o), number (f a) ((f b) ∷ []), ten (f a) (small a), number (f b) [], ten (f b) (small b), bin_word_lem o)
  line_most (uext s a) =
      omega (arith, row nid (ascii "uext") ((2) ∷ (f a) ∷ (64 - width s) ∷ []) false [], ten nid (omega arith), number (2) ((f a) ∷ (64 - width s) ∷ []), two 2 (omega arith), number (f a) ((64 - width s) ∷ []), ten (f a) (small a), number (64 - width s) [], two (64 - width s) (omega arith))
  line_most (ite s c a b) =
      omega (arith, row nid (ascii "ite") ((sort_number s) ∷ (f c) ∷ (f a) ∷ (f b) ∷ []) false [], ten nid (omega arith), number (sort_number s) ((f c) ∷ (f a) ∷ (f b) ∷ []), sort_two s, number (f c) ((f a) ∷ (f b) ∷ []), ten (f c) (small c), number (f a) ((f b) ∷ []), ten (f a) (small a), number (f b) [], ten (f b) (small b))
  line_most (eq a b) =
      omega (arith, row nid (ascii "eq") ((1) ∷ (f a) ∷ (f b) ∷ []) false [], ten nid (omega arith), number (1) ((f a) ∷ (f b) ∷ []), two 1 (omega arith), number (f a) ((f b) ∷ []), ten (f a) (small a), number (f b) [], ten (f b) (small b))
  line_most (and s a b) =
      omega (arith, row nid (ascii "and") ((sort_number s) ∷ (f a) ∷ (f b) ∷ []) false [], ten nid (omega arith), number (sort_number s) ((f a) ∷ (f b) ∷ []), sort_two s, number (f a) ((f b) ∷ []), ten (f a) (small a), number (f b) [], ten (f b) (small b))
  line_most (or s a b) =
      omega (arith, row nid (ascii "or") ((sort_number s) ∷ (f a) ∷ (f b) ∷ []) false [], ten nid (omega arith), number (sort_number s) ((f a) ∷ (f b) ∷ []), sort_two s, number (f a) ((f b) ∷ []), ten (f a) (small a), number (f b) [], ten (f b) (small b))
  line_most (not s a) =
      omega (arith, row nid (ascii "not") ((sort_number s) ∷ (f a) ∷ []) false [], ten nid (omega arith), number (sort_number s) ((f a) ∷ []), sort_two s, number (f a) [], ten (f a) (small a))
  line_most (state s m) =
      omega (arith, row nid (ascii "state") ((sort_number s) ∷ []) true (names m), ten nid (omega arith), number (sort_number s) [], sort_two s, short m)
  line_most (state_init s a m) =
      omega (arith, row nid (ascii "state") ((sort_number s) ∷ []) true (names m), ten nid (omega arith), number (sort_number s) [], sort_two s, short m, row ((nid + 1) % 2 ^ 64) (ascii "init") ((sort_number s) ∷ (nid) ∷ (f a) ∷ []) false [], ten ((nid + 1) % 2 ^ 64) (omega arith), number (sort_number s) ((nid) ∷ (f a) ∷ []), sort_two s, number (nid) ((f a) ∷ []), ten nid (omega arith), number (f a) [], ten (f a) (small a), length-append (row_text nid (ascii "state") (sort_number s ∷ []) true (names m)) (row_text ((nid + 1) % 2 ^ 64) (ascii "init") (sort_number s ∷ nid ∷ f a ∷ []) false []))
  line_most (next s a b) =
      omega (arith, row nid (ascii "next") ((sort_number s) ∷ (f a) ∷ (f b) ∷ []) false [], ten nid (omega arith), number (sort_number s) ((f a) ∷ (f b) ∷ []), sort_two s, number (f a) ((f b) ∷ []), ten (f a) (small a), number (f b) [], ten (f b) (small b))
  line_most (input s m) =
      omega (arith, row nid (ascii "input") ((sort_number s) ∷ []) true (names m), ten nid (omega arith), number (sort_number s) [], sort_two s, short m)
  line_most (bad a m) =
      omega (arith, row nid (ascii "bad") ((f a) ∷ []) true (names m), ten nid (omega arith), number (f a) [], ten (f a) (small a), short m)
  line_most unknown = omega arith

-- ---- a run

rooms_on : (ws : List ℕ) (n k : ℕ) → rooms ws n ≤ rooms ws (n + k)
unfolding rooms
rooms_on ws n zero = rw add-zero (omega arith)
rooms_on ws n (suc k) = let e : n + suc k ≡ suc (n + k) = omega arith in rw e (omega (arith, rooms_on ws n k))

pub rooms_suc : (ws : List ℕ) (n : ℕ) → rooms ws (n + 1) ≡ rooms ws n + name_room (said ws n)
unfolding rooms
rooms_suc ws n = rw add-one

module _ (ws : List ℕ) (lines : ℕ) (host ours : List ℕ) (in_bounds : nids_too_large ws lines ≡ false) (held : lines ≤ capacity (length ws)) where
  at_place : (p : ℕ) → p < lines → length (node_text host ours (nodes ws lines) (node_at (nodes ws lines) p)) ≤ 53 + name_room (said ws p)
  at_place p h =
      let there : p < capacity (length ws) = omega arith in
      let is = got ws lines p (record_at ws p) (rw (lt-ltb _ _ there)) h in
      let e : name_room (node_at (nodes ws lines) p).op ≡ name_room (said ws p) = ap (λ (n : Node). name_room n.op) is in
      let most = line_most (printed_name host ours) (nid_at (nodes ws lines)) (nid_at (nodes ws lines) p) (λ q. omega (arith, nid_most ws lines in_bounds q)) (omega (arith, nid_most ws lines in_bounds p)) (name_most host ours) (node_at (nodes ws lines) p).op in
      omega (arith, e, most)

  run_most : (n p : ℕ) → p + n ≤ lines → length (run_text host ours (nodes ws lines) p n) + rooms ws p ≤ 53 * n + rooms ws (p + n)
  run_most zero p h = rw (run_none host ours (nodes ws lines) p 0 refl, add-zero) (omega arith)
  run_most (suc n) p h =
      let ns = nodes ws lines in
      let e : suc n - 1 ≡ n = omega arith in
      let next : p + 1 + n ≡ p + suc n = omega arith in
      let on : run_text host ours ns p (suc n) ≡ node_text host ours ns (node_at ns p) ++ run_text host ours ns (p + 1) n = run_on host ours ns p (suc n) (omega arith) ∙ rw e in
      omega (arith, ap length on, length-append (node_text host ours ns (node_at ns p)) (run_text host ours ns (p + 1) n), at_place p (omega arith), rooms_suc ws p, run_most n (p + 1) (omega arith), ap (rooms ws) next)

  pub run_fits : (from count : ℕ) → from + count ≤ lines → length (run_text host ours (nodes ws lines) from count) ≤ 53 * count + rooms ws lines
  run_fits from count h =
      let e : from + count + (lines - (from + count)) ≡ lines = omega arith in
      omega (arith, run_most count from h, rooms_on ws (from + count) (lines - (from + count)), ap (rooms ws) e)

-- ---- the room for a name, by the kind of the record

module _ (l : Line) where
  abbrev most : ℕ → ℕ
  most k = cond (has_name k) (10 + l.name.len) 0

  sorted : (m : Option NodeType) (g : NodeType → Op ℕ) (n : ℕ) → ((s : NodeType) → name_room (g s) ≤ n) → name_room (with_sort m g) ≤ n
  sorted (Some s) g n h = h s
  sorted None g n h = omega arith

  one_of : (b : Bool) (o p : Op ℕ) (n : ℕ) → name_room o ≤ n → name_room p ≤ n → name_room (cond b o p) ≤ n
  one_of true o p n h h' = h
  one_of false o p n h h' = h'

  each : Each (λ k. name_room (op_of (of_kind k l)) ≤ most k) 23
  unfolding op_of
  each =
      none
      ▹ omega arith
      ▹ sorted (sort_numbered l.sort) _ _ (λ s. omega arith)
      ▹ omega arith
      ▹ omega arith
      ▹ omega arith
      ▹ omega arith
      ▹ omega arith
      ▹ omega arith
      ▹ omega arith
      ▹ omega arith
      ▹ omega arith
      ▹ omega arith
      ▹ omega arith
      ▹ sorted (sort_numbered l.sort) _ _ (λ s. omega arith)
      ▹ sorted (sort_numbered l.sort) _ _ (λ s. omega arith)
      ▹ omega arith
      ▹ sorted (sort_numbered l.sort) _ _ (λ s. omega arith)
      ▹ sorted (sort_numbered l.sort) _ _ (λ s. omega arith)
      ▹ sorted (sort_numbered l.sort) _ _ (λ s. omega arith)
      ▹ sorted (sort_numbered l.sort) _ _ (λ s. one_of (eqb l.imm 0) _ _ _ (omega arith) (omega arith))
      ▹ sorted (sort_numbered l.sort) _ _ (λ s. omega arith)
      ▹ sorted (sort_numbered l.sort) _ _ (λ s. omega arith)
      ▹ omega arith

  room_most : name_room (op_of l) ≤ most l.kind
  room_most = go (dec_le 23 l.kind)
    where
      go : Dec (23 ≤ l.kind) → name_room (op_of l) ≤ most l.kind
      go (yes h) = rw (outside l (λ _. h)) (omega arith)
      go (no h) = at each l.kind (omega arith)

-- what the check of a line finds tells whether it is well formed, and the room for its name
module _ (ws : List ℕ) (i host ours names r : ℕ) where
  abbrev line : Line
  line = record_at ws i

  by_kind : (b : Bool) → has_name line.kind ≡ b → RoomWith (cond b (Named line.name.len) Unnamed) names r → names + name_room (said ws i) ≤ r
  by_kind true e h = omega (arith, rw e at (room_most line))
  by_kind false e h = omega (arith, rw e at (room_most line))

  pub told : RoomWith (scan_line ws i host ours) names r → (scan_unformed ws i host ours ≡ false) × (names + name_room (said ws i) ≤ r)
  told h = go (scan_unformed ws i host ours) refl h
    where
      go : (b : Bool) → scan_unformed ws i host ours ≡ b → RoomWith (cond b Unformed (name_length line)) names r → (scan_unformed ws i host ours ≡ false) × (names + name_room (said ws i) ≤ r)
      go true e h = absurd h
      go false e h = (e, by_kind (has_name line.kind) refl h)
