-- The output of a line of input has room. Assumes nothing.
use Rattle.std.specs.Prelude.{Option, Some}
use Prim.Native.Nat.{ℕ, zero, suc, ◌+◌, ◌-◌, ◌*◌, ◌/◌, ◌≤◌, min}
use mathlib.Core.Path.{◌≡◌, refl, sym, ap, ◌∙◌}
use mathlib.Core.Bool.{Bool, true, false, cond, ◌&&◌, ◌||◌, true≢false}
use mathlib.Core.List.{List, [], ◌∷◌}
use native.Mathlib.Nat.{min-eq_left}
use native.Mathlib.Omega.{arith}
use borrow.Author.Tests.{leb-true, ne_eqb, eq-eqb}
use lib.Dec.{eqb, ltb, leb}
use lib.ListN.{length, get_or, take, drop, length-append, length-take}
use lib.Seq.{drop_at, take-append_seam}
use Rattle.btor2.specs.declared.Name.{Name}
use Rattle.btor2.specs.Sort.{sort_number, width}
use Rattle.btor2.specs.Op.{Bin, add, sub, mul, udiv, sdiv, urem, sll, srl, ult, Op, const, read, write, bin, uext, ite, eq, and, or, not, state, state_init, next, input, bad, unknown, map_op, bin_sort, identifiers}
use Rattle.btor2_list.specs.Record.{capacity}
use Rattle.btor2_list.specs.Node.{Node}
use Rattle.btor2_list.specs.View.{view}
use Rattle.btor2_list.proofs.View.{view-length}
use Rattle.line_text.specs.Line.{nid_at, nodes, nodes_text, run_text}
use Rattle.text.specs.Ascii.{ascii}
use Rattle.row_text.specs.Row.{name_text, numbers_text, row_text}
use Rattle.line_text.specs.Record.{bin_word, line_text, printed_name}
use Rattle.text.proofs.Laws.{numeral-length, put_is}
use Rattle.listing_input.specs.declared.line.Parsed.{Parsed}
use Rattle.std.specs.Prelude.{Option, Some, None}
use Rattle.listing_input.specs.Line.{parse_line}
use Rattle.listing_start.specs.Start.{host_area}
use Rattle.listing_text.specs.Remarks.{origin_word, condition_text, edge_text, dispatch_text, refused_text, edge_text_at, edges_text, dispatch_text_at, dispatches_text}
use Rattle.riscv.specs.declared.Instruction.{Instruction}
use Rattle.state.specs.declared.State.{State}
use Rattle.lowering.specs.Lowering.{Lent, Answer, counts_after}
use Rattle.lowering_laws.specs.Lines.{numbered}
use Rattle.listing_bytes.specs.Step.{emptied, appended_text, answer_text, parsed_step, step}
use Rattle.listing_bytes.specs.Storage.{longest_name, out_room}
use Rattle.listing_bytes.specs.Laws.{TextFits, TextWritten}
use Rattle.listing_bytes.proofs.Core.{small, one_row, one_row_each, Grown, OneCall, stays, grows, one_call}

either : (b : Bool) (s t : List ℕ) (k : ℕ) → length s ≤ k → length t ≤ k → length (cond b s t) ≤ k
either true s t k h h' = h
either false s t k h h' = h'

-- ---- a line of one row

numbers_most : (xs : List ℕ) → length (numbers_text xs) ≤ 21 * length xs
numbers_most [] = omega arith
numbers_most (x ∷ xs) = simp length-append (omega (arith, numeral-length 10 20 x, numbers_most xs))

row_most : (nid : ℕ) (word numbers : List ℕ) (named : Bool) (name : List ℕ) → length (row_text nid word numbers named name)
    ≤ 22 + length word + 21 * length numbers + length (name_text named name)
unfolding row_text
row_most nid word numbers named name = simp length-append (omega (arith, numeral-length 10 20 nid, numbers_most numbers))

bin_word_lem : (o : Bin) → length (ascii (bin_word o)) ≤ 4
bin_word_lem add = omega arith
bin_word_lem sub = omega arith
bin_word_lem mul = omega arith
bin_word_lem udiv = omega arith
bin_word_lem sdiv = omega arith
bin_word_lem urem = omega arith
bin_word_lem sll = omega arith
bin_word_lem srl = omega arith
bin_word_lem ult = omega arith

part : (s : List ℕ) (at len : ℕ) → length (take len (drop at s)) ≤ 1 + len
part s at len = omega (arith, length-take len (drop at s))

-- a name is printed as its bytes, or as one
name_most : (host ours : List ℕ) (m : Name) → length (printed_name host ours m) ≤ 1 + m.len
unfolding printed_name
name_most host ours m =
    either (eqb m.area 1 || eqb m.area 2) _ _ _
    (either (eqb m.area 1) _ _ _
    (either (leb (m.at + m.len) (length host)) _ _ _ (part host m.at m.len) (omega arith))
    (either (eqb m.area 2) _ _ _ (either (leb (m.at + m.len) (length ours)) _ _ _ (part ours m.at m.len) (omega arith)) (omega arith)))
    (omega arith)

-- the most bytes of a row
abbrev most_row : ℕ
most_row = 111

never : {P : Type 0} → false ≡ true → P
never e = absurd (true≢false (sym e))

module _ (names : Name → List ℕ) (f : ℕ → ℕ) (nid : ℕ) (short : (m : Name) → length (names m) ≤ 1 + m.len) where
  line_most : (o : Op ℕ) → one_row o ≡ true → length (line_text names nid (map_op f o)) ≤ most_row
  unfolding line_text map_op
  line_most (const s n) e = omega (arith, row_most nid (ascii "constd") (sort_number s ∷ n ∷ []) false [])
  line_most (read m a) e = omega (arith, row_most nid (ascii "read") (2 ∷ f m ∷ f a ∷ []) false [])
  line_most (write m a v) e = omega (arith, row_most nid (ascii "write") (3 ∷ f m ∷ f a ∷ f v ∷ []) false [])
  line_most (bin o a b) e = omega (arith, row_most nid (ascii (bin_word o)) (sort_number (bin_sort o) ∷ f a ∷ f b ∷ []) false [], bin_word_lem o)
  line_most (uext s a) e = omega (arith, row_most nid (ascii "uext") (2 ∷ f a ∷ (64 - width s) ∷ []) false [])
  line_most (ite s c a b) e = omega (arith, row_most nid (ascii "ite") (sort_number s ∷ f c ∷ f a ∷ f b ∷ []) false [])
  line_most (eq a b) e = omega (arith, row_most nid (ascii "eq") (1 ∷ f a ∷ f b ∷ []) false [])
  line_most (and s a b) e = omega (arith, row_most nid (ascii "and") (sort_number s ∷ f a ∷ f b ∷ []) false [])
  line_most (or s a b) e = omega (arith, row_most nid (ascii "or") (sort_number s ∷ f a ∷ f b ∷ []) false [])
  line_most (not s a) e = omega (arith, row_most nid (ascii "not") (sort_number s ∷ f a ∷ []) false [])
  line_most (state s m) e = never e
  line_most (state_init s a m) e = never e
  line_most (next s a b) e = never e
  line_most (input s m) e = never e
  line_most (bad a m) e = omega (arith, row_most nid (ascii "bad") (f a ∷ []) true (names m), short m, leb-true m.len longest_name e)
  line_most unknown e = never e

both : (a b : Bool) → (a && b) ≡ true → (a ≡ true) × (b ≡ true)
both true b e = (refl, e)
both false b e = never e

-- the first k of them
rows_most : (host ours : List ℕ) (ns : List Node) (w : Option ℕ) (k nid : ℕ) (ops : List (Op ℕ)) → one_row_each ops ≡ true → length (nodes_text host ours ns (take k (numbered w nid ops))) ≤ most_row * k
unfolding nodes_text numbered
rows_most host ours ns w zero nid ops e = omega arith
rows_most host ours ns w (suc k) nid [] e = omega arith
rows_most host ours ns w (suc k) nid (o ∷ ops) e =
    let b = both (one_row o) (one_row_each ops) e in
    simp length-append
    (omega (arith, line_most (printed_name host ours) (nid_at ns) nid (name_most host ours) o b.0, rows_most host ours ns w k (nid + identifiers o) ops b.1))

-- ---- remarks

origin_most : (origin : ℕ) → length (ascii (origin_word origin)) ≤ 7
origin_most origin = go (eqb origin 0) (eqb origin 1)
  where
    go : (a b : Bool) → length (ascii (cond a "regular" (cond b "branch" "syscall"))) ≤ 7
    go true b = omega arith
    go false true = omega arith
    go false false = omega arith

condition_most : (ns : List Node) (condition : ℕ) → length (condition_text ns condition) ≤ 20
condition_most ns condition = either (eqb condition _) (ascii "-") _ 20 (omega arith) (numeral-length 10 20 _)

edge_most : (ns : List Node) (es : List ℕ) (n : ℕ) → length (edge_text_at ns es n) ≤ 81
unfolding edge_text_at edge_text
edge_most ns es n =
    either (ltb n (length es / 4)) _ [] 81
    (simp length-append (omega (arith, numeral-length 10 20 (get_or es (n * 4) 0), numeral-length 10 20 (get_or es (n * 4 + 1) 0), origin_most (get_or es (n * 4 + 2) 0), condition_most ns (get_or es (n * 4 + 3) 0))))
    (omega arith)

edges_most : (ns : List Node) (es : List ℕ) (n : ℕ) → length (edges_text ns es n) ≤ 81 * n
unfolding edges_text
edges_most ns es zero = omega arith
edges_most ns es (suc n) = simp length-append (omega (arith, edges_most ns es n, edge_most ns es n))

dispatch_most : (ds : List ℕ) (n : ℕ) → length (dispatch_text_at ds n) ≤ 48
unfolding dispatch_text_at dispatch_text
dispatch_most ds n =
    either (ltb n (length ds / 2)) _ [] 48
    (simp length-append (omega (arith, numeral-length 10 20 (get_or ds (n * 2) 0), numeral-length 10 20 (get_or ds (n * 2 + 1) 0))))
    (omega arith)

dispatches_most : (ds : List ℕ) (n : ℕ) → length (dispatches_text ds n) ≤ 48 * n
unfolding dispatches_text
dispatches_most ds zero = omega arith
dispatches_most ds (suc n) = simp length-append (omega (arith, dispatches_most ds n, dispatch_most ds n))

refused_most : (line number : ℕ) → length (refused_text line number) ≤ 52
unfolding refused_text
refused_most line number = simp length-append (omega (arith, numeral-length 10 20 line, numeral-length 10 20 number))

-- ---- a call's answer

module _ (l : Lent) (st : State) (i : Instruction) (address : ℕ) (none : (st.counts.edges ≡ 0) × (st.counts.dispatches ≡ 0)) where
  -- the lines that are printed are the call's own
  run_most : {a : Answer} → Grown l st i address a
      → length (run_text host_area a.lent.names (nodes a.lent.list a.lowered.state.tally.lines) st.tally.lines (a.lowered.state.tally.lines - st.tally.lines)) ≤ most_row * 35
  run_most {a} g =
      let ns = nodes a.lent.list a.lowered.state.tally.lines in
      let grown = a.lowered.state.tally.lines - st.tally.lines in
      let all : min a.lowered.state.tally.lines (capacity (length a.lent.list)) ≡ a.lowered.state.tally.lines =
      min-eq_left (rw (g.list, g.lines) g.held) in
      let own : drop st.tally.lines ns ≡ numbered (Some address) st.tally.nid g.ops =
      ap (λ (n : ℕ). drop st.tally.lines (view a.lent.list n)) all ∙ ap (drop st.tally.lines) g.nodes ∙ drop_at (view l.list st.tally.lines) _ st.tally.lines (view-length l.list st.tally.lines) in
      let e = ap (λ (x : List Node). length (nodes_text host_area a.lent.names ns (take grown x))) own in
      omega (arith, e, rows_most host_area a.lent.names ns (Some address) grown st.tally.nid g.ops g.rows, g.lines, g.most)

  appended_most : {a : Answer} → Grown l st i address a → length (appended_text st.tally.lines a.lent a.lowered.state) ≤ out_room
  unfolding appended_text counts_after
  appended_most {a} g =
      let ns = nodes a.lent.list a.lowered.state.tally.lines in
      let s = small i address in
      let c = g.counts in
      let edges : a.lowered.state.counts.edges ≤ 2 = rw c (omega (arith, none.0, s.edges)) in
      let dispatches : a.lowered.state.counts.dispatches ≤ 1 = rw c (omega (arith, none.1, s.dispatches)) in
      simp length-append
      (omega (arith, run_most g, edges_most ns a.lent.edges a.lowered.state.counts.edges, dispatches_most a.lent.dispatches a.lowered.state.counts.dispatches))

  answer_most : (number : ℕ) {a : Answer} → OneCall l st i address a → length (answer_text number st.tally.lines a) ≤ out_room
  unfolding answer_text
  answer_most number (stays n h) = rw (ne_eqb n 0 h) (omega (arith, refused_most number n))
  answer_most number (grows g) = rw (eq-eqb _ 0 g.refusal) (appended_most g)

taken_most : (number : ℕ) (l : Lent) (st : State) → (st.counts.edges ≡ 0) × (st.counts.dispatches ≡ 0) → (p : Option Parsed) → length (parsed_step number l st p).text ≤ out_room
taken_most number l st none None = omega (arith, refused_most number 0)
taken_most number l st none (Some p) = answer_most l st p.instruction p.address none number (one_call l st p.instruction p.address _)

pub text_written : TextWritten
text_written out text out' n room fits u =
    let end : 0 + length text ≡ length text = omega arith in
    let told : n ≡ length text = omega (arith, u.next) in
    rw (put_is u (omega arith), told) (take-append_seam text (drop (0 + length text) out))

pub text_fits : TextFits
unfolding step emptied
text_fits number line l st = taken_most number l (emptied st) (refl, refl) (parse_line line)
