-- What the listing's laws rest on of the lowering: what one call leaves, and what an instruction needs. Assumes nothing.
use Rattle.std.specs.Prelude.{Some}
use Prim.Native.Nat.{ℕ, ◌+◌, ◌*◌, ◌≤◌, ◌<◌}
use mathlib.Core.Path.{◌≡◌, refl, sym, ap, subst, ◌∙◌}
use mathlib.Core.Bool.{Bool, true, false, cond, ◌&&◌, ◌||◌}
use mathlib.Core.List.{List, [], ◌∷◌, ◌++◌}
use native.Mathlib.Omega.{arith}
use borrow.Author.Tests.{eqb-true, eqb-false, lt-ltb, le-ltb, le-leb}
use lib.Dec.{T, eqb, ltb, leb}
use lib.ListN.{length}
use Rattle.bitvec.proofs.Truth.{is_true}
use Rattle.btor2.specs.declared.Name.{Name}
use Rattle.btor2.specs.declared.NodeRef.{NodeRef}
use Rattle.btor2.specs.Op.{Op, const, read, write, bin, uext, ite, eq, and, or, not, state, state_init, next, input, bad, unknown}
use Rattle.btor2_list.specs.Record.{capacity}
use Rattle.btor2_list.specs.Node.{no_name}
use Rattle.btor2_list.specs.View.{view}
use Rattle.builder.specs.declared.Tally.{Tally}
use Rattle.riscv.specs.declared.Zeros.{Zeros}
use Rattle.riscv.specs.Zeros.{zeros_of}
use Rattle.riscv.specs.declared.Class.{Class}
use Rattle.riscv.specs.declared.Class.TheVariants.{Plain, Access, Addi, Branch, Jal, Jalr, Ecall}
use Rattle.riscv.specs.Class.{class, plain_count, count_of, has_bad, has_dispatch}
use Rattle.edges.specs.Edges.{edge_count}
use Rattle.models.specs.Places.{Operands, Flows}
use Rattle.riscv.specs.declared.Instruction.{Instruction}
use Rattle.riscv.specs.declared.Kind.{Kind}
use Rattle.riscv.specs.Kind.{kind_at}
use Rattle.riscv.proofs.EachKind.{zeros, every_case, by_case}
use Rattle.text.specs.BadName.{bad_name}
use Rattle.text.proofs.Laws.{bad_name_length}
use Rattle.state.specs.declared.Counts.{Counts}
use Rattle.state.specs.declared.room.Room.{Room}
use Rattle.state.specs.declared.State.{State}
use Rattle.lowering_refusals.specs.Refusal.{needs_of, needs, room_out, refusal_of}
use Rattle.btor2_list.specs.Limits.{most_lines}
use Rattle.btor2_list.specs.NameBytes.{our_area}
use Rattle.lowering.specs.Lines.{name_for, program_with}
use Rattle.lowering.specs.Lowering.{Lent, Answer, program_of, counts_after, settled, room_in, refused, lowering_given, lowering}
use Rattle.builder.specs.Lines.{lines_of, place_after}
use Rattle.lowering_laws.specs.Lines.{numbered}
use Rattle.lowering_laws.specs.Accepted.{growth}
use Rattle.lowering_laws.proofs.EachKind.{reading, reads}
use Rattle.lowering_laws.proofs.OneCall.{room, when_accepted, when_refused}
use Rattle.listing_bytes.specs.Storage.{longest_name, most_edges, most_dispatches}

-- ---- what an instruction needs

pub record Small (n : Room) : Type 0 where
  pub bad_lines : n.bads ≤ n.lines
  pub name_bytes : n.names ≤ n.bads * longest_name
  pub edges : n.edges ≤ most_edges
  pub dispatches : n.dispatches ≤ most_dispatches

small_of : (c : Class) (n : ℕ) (z d s : Bool) (address : ℕ)
    → Small (record { lines = count_of c n (zeros z d s); names = cond (has_bad c (zeros z d s)) (length (bad_name address)) 0; edges = edge_count c; dispatches = cond (has_dispatch c (zeros z d s)) 1 0; bads = cond (has_bad c (zeros z d s)) 1 0 })
small_of Plain n z d s address = record { bad_lines = omega arith; name_bytes = omega arith; edges = omega arith; dispatches = omega arith }
small_of Access n z d s address = record { bad_lines = omega arith; name_bytes = omega arith; edges = omega arith; dispatches = omega arith }
small_of Addi n z d s address = record { bad_lines = omega arith; name_bytes = omega arith; edges = omega arith; dispatches = omega arith }
small_of Branch n z d s address = record { bad_lines = omega arith; name_bytes = omega arith; edges = omega arith; dispatches = omega arith }
small_of Jal n z d s address = record { bad_lines = omega arith; name_bytes = omega arith; edges = omega arith; dispatches = omega arith }
small_of Jalr n z d true address = record { bad_lines = omega arith; name_bytes = omega (arith, bad_name_length address); edges = omega arith; dispatches = omega arith }
small_of Jalr n z d false address = record { bad_lines = omega arith; name_bytes = omega arith; edges = omega arith; dispatches = omega arith }
small_of Ecall n z d s address = record { bad_lines = omega arith; name_bytes = omega arith; edges = omega arith; dispatches = omega arith }

pub small : (i : Instruction) (address : ℕ) → Small (needs i address)
unfolding needs_of
small i address = let k = kind_at i.kind in let z = zeros_of i in small_of (class k) (plain_count k) z.imm z.rd z.rs1 address

pub lines_needed : (i : Instruction) (address : ℕ) → (needs i address).lines ≡ growth i
unfolding needs_of
lines_needed i address = refl

-- ---- refusal 8

or_second : (a b c : Bool) → b ≡ true → (a || (b || c)) ≡ true
or_second true b c e = refl
or_second false b c e = rw e

module _ (room : Room) (t : Tally) (c : Counts) (n : Room) where
  pub no_line_free : room.lines < t.lines + n.lines → room_out room t c n ≡ true
  unfolding room_out
  no_line_free h = or_second (ltb most_lines (t.lines + n.lines)) (ltb room.lines (t.lines + n.lines)) _ (lt-ltb room.lines (t.lines + n.lines) h)

  pub all_free : t.lines + n.lines ≤ most_lines → t.lines + n.lines ≤ room.lines → c.names + n.names ≤ room.names → c.edges + n.edges ≤ room.edges
      → c.dispatches + n.dispatches ≤ room.dispatches → c.bads + n.bads ≤ room.bads → room_out room t c n ≡ false
  unfolding room_out
  all_free most lines names edges dispatches bads =
      rw (le-ltb most_lines (t.lines + n.lines) most, le-ltb room.lines (t.lines + n.lines) lines, le-ltb room.names (c.names + n.names) names, le-ltb room.edges (c.edges + n.edges) edges, le-ltb room.dispatches (c.dispatches + n.dispatches) dispatches, le-ltb room.bads (c.bads + n.bads) bads)

-- ---- the lines of an instruction have one row each, and a name of theirs is no longer than the longest

abbrev pub one_row : {A : Type 0} → Op A → Bool
one_row (const s n) = true
one_row (read m a) = true
one_row (write m a v) = true
one_row (bin o a b) = true
one_row (uext s a) = true
one_row (ite s c a b) = true
one_row (eq a b) = true
one_row (and s a b) = true
one_row (or s a b) = true
one_row (not s a) = true
one_row (state s m) = false
one_row (state_init s a m) = false
one_row (next s a b) = false
one_row (input s m) = false
one_row (bad a m) = leb m.len longest_name
one_row unknown = false

abbrev pub one_row_each : {A : Type 0} → List (Op A) → Bool
one_row_each [] = true
one_row_each (o ∷ os) = one_row o && one_row_each os

module _ {A : Type 0} (place : ℕ → A) (e : Operands A) (f : Flows A) (r m : A) (imm : ℕ) (name : Name) (short : leb name.len longest_name ≡ true) where
  rows : Kind → Zeros → Bool
  rows k z = one_row_each (reading place e f r m imm name k z).lines

  all_rows : T (every_case rows)
  unfolding rows reading
  all_rows = rw short tt

  row_each : (k : Kind) (z : Zeros) → one_row_each (reading place e f r m imm name k z).lines ≡ true
  unfolding rows
  row_each k z = is_true _ (by_case rows all_rows k z)

name_short : (c : Class) (z : Zeros) (names address : ℕ) → leb (name_for c z names address).len longest_name ≡ true
name_short c z names address = go (has_bad c z)
  where
    go : (b : Bool) → leb (cond b (record { area = our_area; at = names; len = length (bad_name address) }) no_name).len longest_name ≡ true
    go true = le-leb (length (bad_name address)) longest_name (bad_name_length address)
    go false = refl

rows_of : (st : State) (i : Instruction) (address : ℕ) (flag : NodeRef) (place : ℕ → ℕ) → one_row_each (lines_of place 0 (program_of st i address flag)) ≡ true
unfolding program_of program_with
rows_of st i address flag place =
    let k = kind_at i.kind in
    sym (ap (λ r. one_row_each r.lines) (reads place _ _ _ _ _ _ k _))
    ∙ row_each place _ _ _ _ _ _ (name_short (class k) (zeros_of i) st.counts.names address) k _

-- ---- one call

-- an accepted call: its lines, and that nothing that is lent changes its length
pub record Grown (l : Lent) (st : State) (i : Instruction) (address : ℕ) (a : Answer) : Type 0 where
  pub refusal : a.lowered.refusal ≡ 0
  pub lines : a.lowered.state.tally.lines ≡ st.tally.lines + (needs i address).lines
  pub most : (needs i address).lines ≤ 35
  pub held : st.tally.lines + (needs i address).lines ≤ capacity (length l.list)
  pub counts : a.lowered.state.counts ≡ counts_after st.counts (needs i address)
  pub list : length a.lent.list ≡ length l.list
  pub names : length a.lent.names ≡ length l.names
  pub edges : length a.lent.edges ≡ length l.edges
  pub dispatches : length a.lent.dispatches ≡ length l.dispatches
  pub bads : length a.lent.bads ≡ length l.bads
  pub ops : List (Op ℕ)
  pub rows : one_row_each ops ≡ true
  pub nodes : view a.lent.list a.lowered.state.tally.lines ≡ view l.list st.tally.lines ++ numbered (Some address) st.tally.nid ops

pub data OneCall (l : Lent) (st : State) (i : Instruction) (address : ℕ) : Answer → Type 0 where
  stays : (n : ℕ) → (n ≡ 0 → ⊥) → OneCall l st i address (refused n l st)
  grows : {a : Answer} → Grown l st i address a → OneCall l st i address a

module _ (l : Lent) (st : State) (i : Instruction) (address : ℕ) (flag : NodeRef) where
  abbrev refusal_number : ℕ
  refusal_number = refusal_of l.list (room_in l) st i address flag.0

  counts_after_lem : refusal_number ≡ 0 → (lowering l st i address flag).lowered.state.counts ≡ counts_after st.counts (needs i address)
  unfolding lowering_given settled
  counts_after_lem e = rw e

  grown : refusal_number ≡ 0 → Grown l st i address (lowering l st i address flag)
  grown e =
      let a = when_accepted l st i address flag e in
      let n = lines_needed i address in
      record {
        refusal = a.refusal;
        lines = omega (arith, a.lines, n);
        most = omega (arith, a.most, n);
        held = omega (arith, (room l st i address flag e).lines, n);
        counts = counts_after_lem e;
        list = a.list.size;
        names = a.names.size;
        edges = a.edges.size;
        dispatches = a.dispatches.size;
        bads = a.bads.size;
        ops = lines_of (place_after st.tally.lines) 0 (program_of st i address flag);
        rows = rows_of st i address flag (place_after st.tally.lines);
        nodes = a.nodes;
      }

  pub one_call : OneCall l st i address (lowering l st i address flag)
  one_call = go (eqb refusal_number 0) refl
    where
      go : (b : Bool) → eqb refusal_number 0 ≡ b → OneCall l st i address (lowering l st i address flag)
      go true e = grows (grown (eqb-true refusal_number 0 e))
      go false e =
          let h = eqb-false refusal_number 0 e in
          subst (OneCall l st i address) (sym (when_refused l st i address flag h)) (stays refusal_number h)
