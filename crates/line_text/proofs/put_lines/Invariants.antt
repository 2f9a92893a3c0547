-- What is put, and the run from here on, are the whole run. Assumes nothing.
use Rattle.std.proofs.Common.{◌≡◌, ℕ, ◌+◌, ◌-◌, List, ◌++◌, length}
use Rattle.btor2_list.specs.Record.{capacity}
use Rattle.text.specs.Put.{Put}
use Rattle.line_text.specs.Line.{nodes, run_text}
use Rattle.line_text.proofs.put_lines.Given as goal

abbrev pub invariant-loop-place : goal.invariant-loop-place
invariant-loop-place l =
    let text = run_text l.areas.host.now l.areas.ours.now (nodes l.list (capacity (length l.list))) in
    (s : List ℕ) × Put l.initial.out l.at s l.out l.p × (s ++ text l.place (l.from + l.count - l.place) ≡ text l.from l.count)
