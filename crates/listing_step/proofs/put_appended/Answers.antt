-- One piece after the other; the host's area holds the names of the start. Assumes nothing.
use Rattle.std.proofs.Common.{◌^◌, ◌<◌, length, arith}
use Rattle.text.proofs.Laws.{then, put_as}
use Rattle.listing_start.specs.Start.{start_names, concat, host_area}
use Rattle.listing_bytes.specs.Step.{appended_text}
use Rattle.listing_step.proofs.put_appended.Goals as goal

pub returns : goal.returns
unfolding appended_text start_names concat host_area
returns c =
    let h : length c.args.out.now < 2 ^ 64 = omega arith in
    let lines = put_as c.put_run-at.ensures (rw c.saturating_sub.ensures) in
    then h (then h lines c.put_edges-at.ensures) c.put_dispatches.ensures
