-- The list cut to its lines has the same lines. Assumes nothing.
use Rattle.std.proofs.Common.{ℕ, List, length, ap, ◌∙◌}
use Rattle.btor2_list.specs.Record.{capacity}
use Rattle.btor2_list.specs.Node.{Node}
use Rattle.text.proofs.Laws.{put_as}
use Rattle.line_text.specs.Line.{nodes, run_text}
use Rattle.line_text.proofs.Listed.{cut_nodes}
use Rattle.line_text.proofs.put_run.Goals as goal

pub returns : goal.returns
returns c =
    let a = c.args.listing.now in
    let same = ap (λ (ws : List ℕ). nodes ws (capacity (length ws))) c.first_lines-list.ensures ∙ cut_nodes a.list.now a.lines in
    put_as c.put_lines.ensures (ap (λ (ns : List Node). run_text a.areas.host.now a.areas.ours.now ns c.args.from c.args.count) same)
