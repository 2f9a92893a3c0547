-- That is 11 where the lines before are well formed. Assumes nothing.
use mathlib.Core.Path.{◌≡◌, ◌∙◌}
use Rattle.list_check.specs.declared.Checked.TheVariants.{Unnamed}
use Rattle.list_check.specs.Scan.{scan_line}
use Rattle.list_check.proofs.Scan.{checked}
use Rattle.list_check.proofs.check_line.Goals as goal

pub returns-then-plain_at-clause-eleven : goal.returns-then-plain_at-clause-eleven
returns-then-plain_at-clause-eleven c none =
    let a = c.args in
    let plain = c.plain_at.ensures c.if-plain_at.true in
    let is : Unnamed ≡ scan_line a.list.now a.i a.host a.ours = rw (plain.0, plain.2 a.host a.ours, plain.1) in
    is ∙ checked a.list.now a.i a.host a.ours none

pub returns-clause-eleven : goal.returns-clause-eleven
returns-clause-eleven c none = let a = c.args in c.check_by_kind.ensures ∙ checked a.list.now a.i a.host a.ours none
