-- The mark of an address is set by its bit. Assumes nothing.
use Prim.Native.Nat.{ℕ}
use mathlib.Core.Path.{◌≡◌}
use native.Mathlib.Omega.{arith}
use Rattle.std.specs.Int.Bits.{bit_or, or_add_and}
use Rattle.std.proofs.lemmas.Nat.Bits.{and_pow}
use Rattle.std.proofs.lemmas.Bool.Decides.{nat_tests}
use Rattle.btor2_list.specs.Record.{with_mark}

pub mark_set : (head : ℕ) → bit_or head 268435456 ≡ with_mark head
mark_set head = grind (arith, nat_tests, or_add_and head 268435456, and_pow head 28)
