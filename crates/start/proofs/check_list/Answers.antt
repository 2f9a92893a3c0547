-- The tests come in the definition's order, and each answers as its own definition does. Assumes nothing.
use Prim.Native.Nat.{ℕ}
use mathlib.Core.Path.{◌≡◌, sym, ◌∙◌}
use mathlib.Core.Bool.{Bool, false, not}
use mathlib.Core.List.{List}
use borrow.Author.Tests.{le-ltb}
use lib.ListN.{length}
use Rattle.btor2.specs.SortRule.{meets_sort_rule}
use Rattle.btor2_list.specs.Limits.{most_start_nid, tally_out}
use Rattle.btor2_list.specs.Record.{capacity}
use Rattle.btor2_list.specs.View.{view}
use Rattle.list_check.specs.Lines.{ops, past_words}
use Rattle.list_check.specs.Formed.{unformed, unformed_words}
use Rattle.state.proofs.Within.{lines_within}
use Rattle.nid_check.specs.Identifiers.{taken, nids_out, nids_out_words}
use Rattle.sort_check.specs.Broken.{sort_broken_words}
use Rattle.start.specs.Start.{list_refusal}
use Rattle.start.proofs.check_list.Goals as goal

-- where 9 does not apply the words hold the lines
held : (ws : List ℕ) (n next : ℕ) → tally_out most_start_nid (capacity (length ws)) n next ≡ false → past_words ws n ≡ false
held ws n next in9 = le-ltb (capacity (length ws)) n (lines_within most_start_nid (capacity (length ws)) n next in9).held

is10 : (ws : List ℕ) (n next : ℕ) {b : Bool} → past_words ws n ≡ false → b ≡ nids_out_words ws n next → nids_out next (taken (view ws n)) ≡ b
is10 ws n next h e = sym (rw h at e)

is11 : (ws : List ℕ) (n host ours : ℕ) {b : Bool} → past_words ws n ≡ false → b ≡ unformed_words ws n host ours → unformed host ours (ops (view ws n)) ≡ b
is11 ws n host ours h e = sym (rw h at e)

is12 : (ws : List ℕ) (n : ℕ) {b : Bool} → past_words ws n ≡ false → b ≡ sort_broken_words ws n → not (meets_sort_rule (ops (view ws n))) ≡ b
is12 ws n h e = sym (rw h at e)

-- ---- the answers

pub returns-then-tally_out : goal.returns-then-tally_out
unfolding list_refusal
returns-then-tally_out c = rw (← c.capacity.ensures, ← c.tally_out.ensures, c.if-tally_out.true)

pub returns-then-nids_out : goal.returns-then-nids_out
unfolding list_refusal
returns-then-nids_out c =
    let a = c.args in
    let in9 : tally_out most_start_nid (capacity (length a.list.now)) a.lines a.next ≡ false = rw (← c.capacity.ensures, ← c.tally_out.ensures) c.if-tally_out.false in
    let h = held a.list.now a.lines a.next in9 in
    rw (in9, is10 a.list.now a.lines a.next h c.nids_out.ensures ∙ c.if-nids_out.true)

pub returns-then-unformed : goal.returns-then-unformed
unfolding list_refusal
returns-then-unformed c =
    let a = c.args in
    let in9 : tally_out most_start_nid (capacity (length a.list.now)) a.lines a.next ≡ false = rw (← c.capacity.ensures, ← c.tally_out.ensures) c.if-tally_out.false in
    let h = held a.list.now a.lines a.next in9 in
    rw (in9, is10 a.list.now a.lines a.next h c.nids_out.ensures ∙ c.if-nids_out.false, is11 a.list.now a.lines a.host a.ours h c.unformed.ensures ∙ c.if-unformed.true)

pub returns-then-sort_broken : goal.returns-then-sort_broken
unfolding list_refusal
returns-then-sort_broken c =
    let a = c.args in
    let in9 : tally_out most_start_nid (capacity (length a.list.now)) a.lines a.next ≡ false = rw (← c.capacity.ensures, ← c.tally_out.ensures) c.if-tally_out.false in
    let h = held a.list.now a.lines a.next in9 in
    rw (in9, is10 a.list.now a.lines a.next h c.nids_out.ensures ∙ c.if-nids_out.false, is11 a.list.now a.lines a.host a.ours h c.unformed.ensures ∙ c.if-unformed.false, is12 a.list.now a.lines h c.sort_broken.ensures ∙ c.if-sort_broken.true)

pub returns : goal.returns
unfolding list_refusal
returns c =
    let a = c.args in
    let in9 : tally_out most_start_nid (capacity (length a.list.now)) a.lines a.next ≡ false = rw (← c.capacity.ensures, ← c.tally_out.ensures) c.if-tally_out.false in
    let h = held a.list.now a.lines a.next in9 in
    rw (in9, is10 a.list.now a.lines a.next h c.nids_out.ensures ∙ c.if-nids_out.false, is11 a.list.now a.lines a.host a.ours h c.unformed.ensures ∙ c.if-unformed.false, is12 a.list.now a.lines h c.sort_broken.ensures ∙ c.if-sort_broken.false)
