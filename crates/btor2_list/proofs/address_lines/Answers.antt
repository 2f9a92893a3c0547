-- As many lines as were passed have the address; past the words there is none. Assumes nothing.
use Prim.Native.Nat.{ℕ, suc, ◌+◌, ◌-◌}
use mathlib.Core.Path.{◌≡◌, sym, ap, ◌∙◌}
use native.Mathlib.Omega.{arith}
use mathlib.Core.List.{List}
use lib.ListN.{length}
use Rattle.bitvec.proofs.Base.{by_le}
use Rattle.btor2_list.specs.Record.{capacity, words_for, with_address, address_lines}
use Rattle.btor2_list.proofs.Addressed.{address_one, address_past}
use Rattle.btor2_list.proofs.address_lines.Goals as goal

pub loop-place-init : goal.loop-place-init
unfolding address_lines
loop-place-init c =
    let from = c.args.from in
    let none : from - from ≡ 0 = omega arith in
    (omega arith, rw none)

pub loop-place-preserved : goal.loop-place-preserved
loop-place-preserved c =
    let inv = c.loop-place.invariant in
    let a = c.args in
    let place = c.loop-place.place in
    let next : place + 1 ≡ suc place = omega arith in (
      omega (arith, inv.0),
      c.address_line.ensures
          ∙ ap (λ (ws : List ℕ). with_address ws (words_for place) a.address) inv.1
          ∙ rw next (address_one a.list.now a.from place a.address (omega arith) (omega arith)),
    )

pub returns : goal.returns
returns c =
    let inv = c.loop-place.invariant in
    let a = c.args in
    let ws = a.list.now in
    let n : ℕ = c.loop-place.place - a.from in
    inv.1
    ∙ by_le a.to (capacity (length ws))
    (λ h. let all : n ≡ a.to - a.from = omega (arith, inv.0) in ap (λ (k : ℕ). address_lines ws a.from k a.address) all)
    (λ h. let all : n + (a.to - a.from - n) ≡ a.to - a.from = omega (arith, inv.0) in rw all at (sym (address_past ws a.from n (a.to - a.from - n) a.address (omega (arith, inv.0)))))
