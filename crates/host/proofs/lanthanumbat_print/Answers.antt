-- What printing answers, as two numbers. Assumes nothing.
use Prim.Native.Nat.{ℕ}
use mathlib.Core.Path.{◌≡◌, sym, ap, ◌∙◌}
use mathlib.Core.List.{List}
use Rattle.std.specs.Prelude.{Result}
use Rattle.refusals.specs.declared.Refusal.{Refusal}
use Rattle.print.specs.Printing.{PrintOutcome, answer_of, print_outcome, printing}
use Rattle.host.specs.Host.{text_by, host_printing}
use Rattle.host.proofs.lanthanumbat_print.Goals as goal

text_of : (r : Result ℕ Refusal) (out' ws : List ℕ) (lines : ℕ) (host ours : List ℕ) (from count : ℕ) (out : List ℕ)
    → print_outcome (answer_of r) out' ≡ printing ws lines host ours from count out → text_by (answer_of r) out' ≡ host_printing ws lines host ours from count out
unfolding host_printing
text_of r out' ws lines host ours from count out e = ap (λ (o : PrintOutcome). text_by o.answer o.output) e

pub returns-in-Ok : goal.returns-in-Ok
returns-in-Ok c =
    let a = c.args in
    let out = c.print.new.out in
    ap (λ (r : Result ℕ Refusal). text_by (answer_of r) out) (sym c.in-Ok.is) ∙ text_of c.print.result out a.list.now a.lines a.host.now a.ours.now a.from a.count a.out.now c.print.ensures

pub returns-in-Err : goal.returns-in-Err
returns-in-Err c =
    let a = c.args in
    let out = c.print.new.out in
    rw c.number.ensures (ap (λ (r : Result ℕ Refusal). text_by (answer_of r) out) (sym c.in-Err.is) ∙ text_of c.print.result out a.list.now a.lines a.host.now a.ours.now a.from a.count a.out.now c.print.ensures)
