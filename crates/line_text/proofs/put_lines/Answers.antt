-- What is put, and the run from here on, are the whole run. Assumes nothing.
use Rattle.std.proofs.Common.{◌≡◌, ◌+◌, ◌-◌, [], ◌++◌, length, sym, refl, ap, ◌∙◌, arith}
use Rattle.btor2_list.specs.Record.{capacity}
use Rattle.btor2_list.specs.Node.{node_of}
use Rattle.text.proofs.Laws.{then, put_as}
use Rattle.line_text.specs.Line.{nodes, node_text}
use Rattle.line_text.proofs.Listed.{length-nodes, all_got, not_got}
use Rattle.line_text.proofs.Runs.{run_further, run_ended}
use Rattle.line_text.proofs.put_lines.Goals as goal

pub loop-place-init : goal.loop-place-init
loop-place-init c =
    let left : c.args.from + c.args.count - c.args.from ≡ c.args.count = omega arith in
    ([], record { list = refl; next = omega arith }, rw left)

pub returns-in_default : goal.returns-in_default
returns-in_default c =
    let a = c.args in
    let ws = a.list.now in
    let past = not_got ws (capacity (length ws)) c.loop-place.place (sym c.in_default.is ∙ c.get.ensures) in
    put_as c.loop-place.invariant.1 (run_ended a.areas.now.host.now a.areas.now.ours.now (nodes ws (capacity (length ws))) _ _ c.loop-place.place _ (λ h. omega arith) c.loop-place.invariant.2)

pub loop-place-preserved : goal.loop-place-preserved
loop-place-preserved c =
    let a = c.args in
    let ws = a.list.now in
    let ns = nodes ws (capacity (length ws)) in
    let inv = c.loop-place.invariant in
    let at = ap (node_text a.areas.now.host.now a.areas.now.ours.now ns) (all_got ws c.loop-place.place c.in-Some.line (sym c.in-Some.is ∙ c.get.ensures)) in
    let left : a.from + a.count - c.loop-place.place - 1 ≡ a.from + a.count - (c.loop-place.place + 1) = omega arith in (
      inv.0 ++ node_text a.areas.now.host.now a.areas.now.ours.now ns (node_of c.in-Some.line),
      then (omega arith) inv.1 c.put_line-p.ensures,
      rw left at (run_further a.areas.now.host.now a.areas.now.ours.now ns inv.0 _ _ c.loop-place.place _ (omega arith) at inv.2),
    )

pub returns : goal.returns
returns c =
    let a = c.args in
    let ws = a.list.now in
    let long = length-nodes ws (capacity (length ws)) 0 in
    put_as c.loop-place.invariant.1 (run_ended a.areas.now.host.now a.areas.now.ours.now (nodes ws (capacity (length ws))) _ _ c.loop-place.place _ (λ h. omega arith) c.loop-place.invariant.2)
