-- An edge more, or none. Assumes nothing.
use Rattle.std.proofs.Common.{rules, ◌≡◌, ◌/◌, ℕ, Bool, List, ◌∷◌, Some, None, eqb, length, sym, ap, ◌∙◌}
use Rattle.std.specs.Slice.Iter.{chunks_exact_rest}
use Rattle.edges.specs.Edges.{dispatch_stride}
use Rattle.join.specs.Program.{Edge}
use Rattle.join.specs.Given.{flag_for}
use Rattle.join_calls.specs.Records.{edge_record, all_edges, all_flags}
use Rattle.join_calls.specs.Room.{left_after_edge, exceeding}
use Rattle.join_calls.proofs.Exceeding.{exceeded, left_over, exceeding_none}
use Rattle.join_calls.proofs.InChunks.{edges_next, edges_none}
use Rattle.join_calls.proofs.room.Left.exceeded.Goals as goal

pub loop-words-preserved : goal.loop-words-preserved
loop-words-preserved c =
    let a = c.args in
    let f : ℕ → Bool = λ p. eqb (flag_for (all_flags a.given.now.flags.now) p) a.zero.0 in
    let n : ℕ = length a.given.now.dispatches.now / dispatch_stride in
    let left = c.loop-words.left in
    let x : Edge ℕ = edge_record c.edge_in-edge.result in
    let rest : List (Edge ℕ) = all_edges (chunks_exact_rest c.next.new.self) in
    let taken : all_edges (chunks_exact_rest c.loop-words.words-iterator) ≡ x ∷ rest =
    edges_next c.loop-words.words-iterator c.next.new.self c.in-Some.words x c.edge_in-edge.ensures c.loop-words.invariant.1 c.in-Some.ensures.steps in
    let goes : Some c.in-Some-after.rest ≡ left_after_edge left x.origin x.from (f x.from) = sym c.in-Some-after.is ∙ rw c.find_flag-flag.ensures at c.after.ensures in
    (search rules, search rules, left_over f left x rest n goes ∙ ap (λ (xs : List (Edge ℕ)). exceeding f left xs n) (sym taken) ∙ c.loop-words.invariant.2)

pub returns-in-None-after : goal.returns-in-None-after
returns-in-None-after c =
    let a = c.args in
    let f : ℕ → Bool = λ p. eqb (flag_for (all_flags a.given.now.flags.now) p) a.zero.0 in
    let n : ℕ = length a.given.now.dispatches.now / dispatch_stride in
    let left = c.loop-words.left in
    let x : Edge ℕ = edge_record c.edge_in-edge.result in
    let rest : List (Edge ℕ) = all_edges (chunks_exact_rest c.next.new.self) in
    let taken : all_edges (chunks_exact_rest c.loop-words.words-iterator) ≡ x ∷ rest =
    edges_next c.loop-words.words-iterator c.next.new.self c.in-Some.words x c.edge_in-edge.ensures c.loop-words.invariant.1 c.in-Some.ensures.steps in
    let stops : None ≡ left_after_edge left x.origin x.from (f x.from) = sym c.in-None-after.is ∙ rw c.find_flag-flag.ensures at c.after.ensures in
    exceeded f left x rest n stops ∙ ap (λ (xs : List (Edge ℕ)). exceeding f left xs n) (sym taken) ∙ c.loop-words.invariant.2

pub returns : goal.returns
returns c =
    let a = c.args in
    let f : ℕ → Bool = λ p. eqb (flag_for (all_flags a.given.now.flags.now) p) a.zero.0 in
    let n : ℕ = length a.given.now.dispatches.now / dispatch_stride in
    rw c.dispatch_lines.ensures
    (sym (exceeding_none f c.loop-words.left n)
    ∙ ap (λ (xs : List (Edge ℕ)). exceeding f c.loop-words.left xs n) (sym (edges_none c.loop-words.words-iterator c.next.new.self c.loop-words.invariant.1 c.in-None.ensures.steps))
    ∙ c.loop-words.invariant.2)
