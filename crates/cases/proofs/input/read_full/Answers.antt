-- What a read puts after what was read before it is what it consumes. Assumes nothing.
use Rattle.std.proofs.Common.{◌≡◌, ℕ, ◌+◌, ◌≤◌, List, ◌++◌, length, take, sym, ap, ap₂, subst, ◌∙◌, rules, drop_at, take_at, length-take-le}
use lib.Seq.{take-add, take-append-le}
use Rattle.std.specs.Io.KnownBytes.{Consumes}
use Rattle.std.proofs.KnownBytes.{Consumes-trans}
use Rattle.cases.proofs.input.read_full.Goals as goal

read_after : (a n : ℕ) (front part rest : List ℕ) → a ≤ length front → n ≤ length part → take (a + n) (take a front ++ (part ++ rest)) ≡ take a front ++ take n part
read_after a n front part rest h k =
    let long = length-take-le a front h in
    take-add a n (take a front ++ (part ++ rest))
    ∙ ap₂ (λ (u v : List ℕ). u ++ take n v) (take_at (take a front) (part ++ rest) a long) (drop_at (take a front) (part ++ rest) a long)
    ∙ ap (λ (v : List ℕ). take a front ++ v) (take-append-le n part rest k)

pub loop-done-preserved : goal.loop-done-preserved
loop-done-preserved g c =
    let before = c.loop-done.invariant in
    let joined = read_after c.loop-done.done c.in_ok-n.n c.loop-done.buffer c.read.new.buf _ before.within c.in_ok-n.ensures.bound.0 in record {
      within = search rules;
      bytes = subst (Consumes _ _) (sym joined) (Consumes-trans _ _ _ _ _ before.bytes c.in_ok-n.ensures.bytes.0);
    }
