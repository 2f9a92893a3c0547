-- As many lines of the start as were passed are put. Assumes nothing.
use Rattle.std.proofs.Common.{◌≡◌, ℕ, ◌+◌, ◌≤◌, ◌<◌, List, length, map, get_or, sym, refl, ap, ◌∙◌, arith, lt-ltb, le-ltb}
use lib.Seq.{sets}
use Rattle.std.proofs.lemmas.List.{get_or-map}
use Rattle.btor2.specs.Op.{Op, unknown}
use Rattle.btor2_list.specs.Record.{capacity, words_for, words}
use Rattle.btor2_list.specs.Node.{line_of}
use Rattle.std.specs.Prelude.{None}
use Rattle.listing_start.specs.declared.StartLine.{StartLine}
use Rattle.listing_start.specs.declared.TheConstants.{START}
use Rattle.listing_start.specs.Start.{first_nid, start_lines, start_names, concat, start_name, named_states, start_ops, records, start_words, start_in, start_line}
use Rattle.listing_start.specs.Table.{start_op}
use Rattle.listing_start.proofs.Records.{put_more, put_all}
use Rattle.listing_start.proofs.put_start.Goals as goal

whole : length start_ops ≡ start_lines
unfolding start_names concat start_name named_states start_ops
whole = refl

table : map start_op START ≡ start_ops
unfolding start_names concat start_name named_states start_ops
table = refl

said : (k : ℕ) (d : StartLine) → k < start_lines → start_op (get_or START k d) ≡ get_or start_ops k unknown
said k d h = sym (get_or-map start_op START k d unknown h) ∙ ap (λ (os : List (Op ℕ)). get_or os k unknown) table

pub returns-then-capacity-lt-LINES : goal.returns-then-capacity-lt-LINES
unfolding start_in
returns-then-capacity-lt-LINES c = rw (lt-ltb _ start_lines (rw c.capacity.ensures at c.if-capacity-lt-LINES.true))

pub loop-k-init : goal.loop-k-init
unfolding records
loop-k-init c = record { room = rw c.capacity.ensures at c.if-capacity-lt-LINES.false; put = refl }

pub loop-k-preserved : goal.loop-k-preserved
loop-k-preserved c =
    let ws = c.args.list.now in
    let inv = c.loop-k.invariant in
    let k = c.loop-k.k in
    let h = c.loop-k-test.true in
    let there : k < capacity (length c.loop-k.list) = rw c.loop-k.auto.list (omega (arith, inv.room)) in
    let line : c.line_of.result ≡ start_line k = c.line_of.ensures ∙ ap (line_of None (first_nid + k)) (said k _ h) in
    record {
      room = inv.room;
      put =
          c.put.ensures.list
          ∙ rw (lt-ltb _ _ there, line) (ap (λ (x : List ℕ). sets x (words_for k) (words (start_line k))) inv.put ∙ put_more first_nid start_ops ws k (rw whole h));
    }

pub returns : goal.returns
unfolding start_in start_words
returns c =
    let ws = c.args.list.now in
    let inv = c.loop-k.invariant in
    let all : length start_ops ≤ c.loop-k.k = rw whole (omega arith) in
    let room : words_for (length start_ops) ≤ length ws = rw whole (omega (arith, inv.room)) in
    rw (le-ltb (capacity (length ws)) start_lines inv.room) (inv.put ∙ rw whole at (put_all first_nid start_ops ws c.loop-k.k all room))
