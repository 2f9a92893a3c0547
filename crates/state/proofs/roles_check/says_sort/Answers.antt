-- The record that is found. Assumes nothing.
use Rattle.std.proofs.Common.{refl, sym, ◌∙◌}
use Rattle.btor2_list.proofs.Got.{found}
use Rattle.state.proofs.roles_check.says_sort.Goals as goal

pub returns-then-line-sort : goal.returns-then-line-sort
returns-then-line-sort c e =
    let there = found c.args.list.now c.args.place.0 _ (sym c.get.ensures ∙ c.in-Some.is) in
    (there.0, rw there.1 (c.says_own_sort.ensures _ c.args.sort refl c.if-line-sort.true c.requires.0 c.requires.1 e))
