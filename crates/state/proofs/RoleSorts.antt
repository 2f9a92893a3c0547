-- The sort of a role by tests of its place. Assumes nothing.
use Prim.Native.Nat.{ℕ, ◌<◌, ◌≤◌}
use mathlib.Core.Path.{◌≡◌, ap, ◌∙◌}
use mathlib.Core.Bool.{Bool, cond}
use native.Mathlib.Omega.{arith}
use borrow.Author.Tests.{le-ltb, lt-ltb, eq-eqb}
use lib.Dec.{ltb, eqb, eqb→eq}
use lib.ListN.{get_or-eq_default}
use Rattle.bitvec.proofs.Base.{by_le}
use Rattle.bitvec.proofs.Below.{at}
use Rattle.btor2.specs.declared.NodeType.{NodeType}
use Rattle.btor2.specs.declared.NodeType.TheVariants.{Bit, Word, Memory}
use Rattle.btor2.specs.Sort.{sort_number}
use Rattle.btor2.proofs.Sort.{same_sort_lem}
use Rattle.state.specs.Roles.{zero_word, memory_node, maximum_node, memory_flow, maximum_flow, addition_flow, role_count}
use Rattle.state.specs.RolesFit.{role_sorts, role_sort}

abbrev pub sort_by : ℕ → NodeType
sort_by i = cond (ltb i zero_word) Bit (cond (ltb i memory_node) Word (cond (ltb i maximum_node) Memory (cond (ltb i memory_flow) Word (cond (ltb i maximum_flow) Memory (cond (ltb i addition_flow) Word Bit)))))

same : ℕ → Bool
same i = eqb (sort_number (role_sort i)) (sort_number (sort_by i))

pub number_by : (i : ℕ) → sort_number (role_sort i) ≡ sort_number (sort_by i)
unfolding same
number_by i =
    by_le role_count i
    (λ l. ap sort_number (get_or-eq_default role_sorts Bit {n = i} l)
    ∙ rw (le-ltb i zero_word (omega arith), le-ltb i memory_node (omega arith), le-ltb i maximum_node (omega arith), le-ltb i memory_flow (omega arith), le-ltb i maximum_flow (omega arith), le-ltb i addition_flow (omega arith)))
    (λ l. eqb→eq _ _ (at role_count same tt i l))

pub sort_by_lem : (i : ℕ) → role_sort i ≡ sort_by i
sort_by_lem i = same_sort_lem (role_sort i) (sort_by i) (rw (eq-eqb _ _ (number_by i)) tt)

-- what each of the later tests tells
pub registers_lem : (i : ℕ) → maximum_node ≤ i → i < memory_flow → Word ≡ role_sort i
registers_lem i h l = rw (sort_by_lem i, le-ltb i zero_word (omega arith), le-ltb i memory_node (omega arith), le-ltb i maximum_node (omega arith), lt-ltb i memory_flow l)

pub memories_lem : (i : ℕ) → memory_flow ≤ i → i < maximum_flow → Memory ≡ role_sort i
memories_lem i h l = rw (sort_by_lem i, le-ltb i zero_word (omega arith), le-ltb i memory_node (omega arith), le-ltb i maximum_node (omega arith), le-ltb i memory_flow h, lt-ltb i maximum_flow l)

pub words_lem : (i : ℕ) → maximum_flow ≤ i → i < addition_flow → Word ≡ role_sort i
words_lem i h l = rw (sort_by_lem i, le-ltb i zero_word (omega arith), le-ltb i memory_node (omega arith), le-ltb i maximum_node (omega arith), le-ltb i memory_flow (omega arith), le-ltb i maximum_flow h, lt-ltb i addition_flow l)

pub bits_lem : (i : ℕ) → addition_flow ≤ i → Bit ≡ role_sort i
bits_lem i h = rw (sort_by_lem i, le-ltb i zero_word (omega arith), le-ltb i memory_node (omega arith), le-ltb i maximum_node (omega arith), le-ltb i memory_flow (omega arith), le-ltb i maximum_flow (omega arith), le-ltb i addition_flow h)
