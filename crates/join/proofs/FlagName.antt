-- The length of a State's name. Assumes nothing.
use Prim.Native.Nat.{ℕ, ◌≤◌}
use native.Mathlib.Omega.{arith}
use lib.ListN.{length}
use Rattle.text.proofs.Laws.{numeral-length}
use Rattle.join.specs.FlagName.{flag_name}

pub flag_name_length : (address : ℕ) → length (flag_name address) ≤ 40
unfolding flag_name
flag_name_length address = omega (arith, numeral-length 10 20 address)
