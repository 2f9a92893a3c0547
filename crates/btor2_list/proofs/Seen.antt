-- A lookup answers what the view holds. Assumes nothing.
use Prim.Native.Nat.{ℕ, ◌≤◌, ◌<◌}
use mathlib.Core.Path.{◌≡◌, sym, ap}
use mathlib.Core.List.{List}
use native.Mathlib.Omega.{arith}
use borrow.Author.Tests.{lt-ltb, le-ltb}
use lib.ListN.{length, get_or}
use Rattle.btor2_list.specs.Record.{capacity, words_for}
use Rattle.btor2_list.specs.Node.{Node}
use Rattle.btor2_list.specs.View.{view}
use Rattle.btor2_list.specs.Look.{seen, outside, look_at}
use Rattle.btor2_list.proofs.View.{view_at}

-- in a list whose n lines the words hold
module _ (ws : List ℕ) (n : ℕ) (room : words_for n ≤ length ws) (p : ℕ) where
  pub look_line : (d : Node) → p < n → look_at ws n p ≡ seen (get_or (view ws n) p d)
  look_line d h =
      let there : p < capacity (length ws) = omega arith in
      rw (lt-ltb _ _ h, lt-ltb _ _ there) (ap seen (sym (view_at ws n d p h)))

  pub look_past : n ≤ p → look_at ws n p ≡ outside
  look_past h = rw (le-ltb _ _ h)
