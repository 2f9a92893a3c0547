-- The rest of the dispatches after what is done. Assumes nothing.
use Rattle.std.proofs.Common.{rules, ◌≡◌, ◌∷◌}
use Rattle.std.specs.Slice.Iter.{chunks_exact_rest}
use Rattle.join_calls.specs.Records.{dispatch_record, all_dispatches}
use Rattle.join_calls.proofs.Going.{dispatching, dispatch_goes, dispatch_ends}
use Rattle.join_calls.proofs.InChunks.{dispatches_next, dispatches_none}
use Rattle.join_calls.proofs.lines.join_dispatches.Goals as goal

pub loop-words-init : goal.loop-words-init
loop-words-init c = (search rules, search rules, rw (c.into_iter-words-iterator.ensures.into_iter_gives, c.chunks_exact-words-items.ensures.rest) (dispatching _ _ _ _ _ _))

pub loop-words-preserved : goal.loop-words-preserved
loop-words-preserved c =
    let taken : all_dispatches (chunks_exact_rest c.loop-words.words-iterator) ≡ dispatch_record c.dispatch_in-dispatch.result ∷ all_dispatches (chunks_exact_rest c.next.new.self) =
    dispatches_next c.loop-words.words-iterator c.next.new.self c.in-Some.words (dispatch_record c.dispatch_in-dispatch.result) c.dispatch_in-dispatch.ensures c.loop-words.invariant.1 c.in-Some.ensures.steps in
    (search rules, search rules, dispatch_goes _ _ _ (rw (c.register_node-register.ensures, c.dynamic_flag-dynamic.ensures) at c.control_flow_from_jalr-joined.ensures) (rw taken at c.loop-words.invariant.2))

pub returns : goal.returns
returns c = dispatch_ends _ _ _ (rw (dispatches_none c.loop-words.words-iterator c.next.new.self c.loop-words.invariant.1 c.in-None.ensures.steps) at c.loop-words.invariant.2)
