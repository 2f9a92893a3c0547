-- Of a list that passes refusal 9 the Rust's `get_nid(value) as u32` is the identifier, and its `nid + 1` does not wrap. Assumes nothing.
use Prim.Native.Nat.{ℕ, ◌+◌, ◌%◌, ◌^◌, ◌≤◌}
use mathlib.Core.Path.{◌≡◌}
use mathlib.Core.Bool.{false}
use mathlib.Core.List.{List}
use native.Mathlib.Decide.{dec_le}
use native.Mathlib.Nat.{mod-eq_of_lt}
use native.Mathlib.Omega.{arith}
use borrow.Author.Tests.{ltb-false}
use Rattle.list_check.proofs.Some.{some_none}
use Rattle.line_text.specs.Line.{nodes, nid_at}
use Rattle.line_text.proofs.Listed.{length-nodes, nid_outside}
use Rattle.print.specs.Printing.{nid_too_large, nids_too_large}

module _ (ws : List ℕ) (lines : ℕ) (in_bounds : nids_too_large ws lines ≡ false) (p : ℕ) where
  pub nid_most : nid_at (nodes ws lines) p ≤ 2 ^ 31 + 2097152
  unfolding nids_too_large
  nid_most = go (dec_le lines p)
    where
      go : Dec (lines ≤ p) → nid_at (nodes ws lines) p ≤ 2 ^ 31 + 2097152
      go (yes h) = rw (nid_outside ws lines p (omega (arith, length-nodes ws lines p))) (omega arith)
      go (no h) = ltb-false (2 ^ 31 + 2097152) (nid_at (nodes ws lines) p) (some_none lines (nid_too_large ws lines) in_bounds p (omega arith))

  pub as_u32 : nid_at (nodes ws lines) p % 2 ^ 32 ≡ nid_at (nodes ws lines) p
  as_u32 = mod-eq_of_lt (omega (arith, nid_most))

  pub no_wrap : (nid_at (nodes ws lines) p + 1) % 2 ^ 64 ≡ nid_at (nodes ws lines) p + 1
  no_wrap = mod-eq_of_lt (omega (arith, nid_most))
