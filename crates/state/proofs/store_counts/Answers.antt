-- The six words before the roles. Assumes nothing.
use Rattle.std.proofs.Common.{refl, arith, ◌∙◌}
use Rattle.edges.proofs.Copied.{copied}
use Rattle.state.proofs.Words.{six}
use Rattle.state.proofs.Put.{counts_put}
use Rattle.state.proofs.store_counts.Goals as goal

pub returns : goal.returns
returns c =
    let a = c.args in
    rw (c.copy_from_slice.ensures.after, c.count_words.ensures)
    (copied a.words.now (six a.t a.c) 0 6 refl (omega arith) ∙ counts_put a.words.now a.t a.c c.requires)
