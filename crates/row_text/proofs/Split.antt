-- A number's digits are those before the last two, or four, and these. Assumes nothing.
use Prim.Native.Nat.{ℕ, zero, suc, ◌+◌, ◌*◌, ◌/◌, ◌%◌, ◌≤◌, ◌<◌}
use native.Mathlib.Nat.{suc-add}
use native.Mathlib.Decide.{dec_le}
use native.Mathlib.Omega.{arith}
use mathlib.Core.Path.{◌≡◌, sym, ap, ◌∙◌}
use mathlib.Core.List.{List, [], ◌∷◌, ◌++◌, append_assoc}
use lib.ListN.{length}
use borrow.Author.Tests.{lt-ltb, le-ltb}
use Rattle.text.specs.Numeral.{glyph, numeral, decimal_text}
use Rattle.text.proofs.Laws.{numeral-length}
use Rattle.row_text.specs.Pairs.{two, four, eight}

-- 10 to a power, one factor at a time
abbrev ten_to : ℕ → ℕ
ten_to zero = 1
ten_to (suc j) = ten_to j * 10

-- more room for digits than a number has changes nothing
pub wider : (j k x : ℕ) → x < ten_to (suc j) → numeral 10 (suc j) x ≡ numeral 10 (suc (j + k)) x
unfolding numeral
wider zero k x h = let l : x < 10 = omega arith in rw (lt-ltb x 10 l)
wider (suc j) k x h = go (wider j k (x / 10) (omega arith)) (dec_le 10 x)
  where
    go : numeral 10 (suc j) (x / 10) ≡ numeral 10 (suc (j + k)) (x / 10) → Dec (10 ≤ x) → numeral 10 (suc (suc j)) x ≡ numeral 10 (suc (suc j + k)) x
    go e (yes l) = rw (suc-add j k, le-ltb x 10 l) (ap (λ (t : List ℕ). t ++ (glyph (x % 10) ∷ [])) e)
    go e (no l) = let m : x < 10 = omega arith in rw (lt-ltb x 10 m)

more : (k x : ℕ) → 10 ≤ x → numeral 10 (suc k) x ≡ numeral 10 k (x / 10) ++ (glyph (x % 10) ∷ [])
unfolding numeral
more k x h = rw (le-ltb x 10 h)

two_more : (k x : ℕ) → 100 ≤ x → numeral 10 (suc (suc k)) x ≡ numeral 10 k (x / 100) ++ two (x % 100)
two_more k x h =
    let a : x / 10 / 10 ≡ x / 100 = omega arith in
    let b : x / 10 % 10 ≡ x % 100 / 10 = omega arith in
    let d : x % 10 ≡ x % 100 % 10 = omega arith in
    more (suc k) x (omega arith) ∙ rw (more k (x / 10) (omega arith), a, b, d) (append_assoc (numeral 10 k (x / 100)) _ _)

pub one : (k x : ℕ) → x < 10 → glyph x ∷ [] ≡ numeral 10 (suc k) x
unfolding numeral
one k x h = let m : x % 10 ≡ x = omega arith in rw (m, lt-ltb x 10 h)

pub just_two : (x : ℕ) → 10 ≤ x → x < 100 → two x ≡ decimal_text x
just_two x h l = sym (more 19 x h ∙ rw (← one 18 (x / 10) (omega arith)))

pub before_two : (x : ℕ) → 100 ≤ x → x < 10000 → decimal_text (x / 100) ++ two (x % 100) ≡ decimal_text x
before_two x h l = sym (two_more 18 x h ∙ rw (wider 17 2 (x / 100) (omega arith)))

four_more : (k x : ℕ) → 10000 ≤ x → numeral 10 (suc (suc (suc (suc k)))) x ≡ numeral 10 k (x / 10000) ++ four (x % 10000)
four_more k x h =
    let a : x / 100 / 100 ≡ x / 10000 = omega arith in
    let b : x / 100 % 100 ≡ x % 10000 / 100 = omega arith in
    let d : x % 100 ≡ x % 10000 % 100 = omega arith in
    two_more (suc (suc k)) x (omega arith) ∙ rw (two_more k (x / 100) (omega arith), a, b, d) (append_assoc (numeral 10 k (x / 10000)) _ _)

pub before_four : (x : ℕ) → 10000 ≤ x → x < 100000000 → decimal_text (x / 10000) ++ four (x % 10000) ≡ decimal_text x
before_four x h l = sym (four_more 16 x h ∙ rw (wider 15 4 (x / 10000) (omega arith)))

pub before_eight : (x : ℕ) → 100000000 ≤ x → x < 100000000000000000000 → decimal_text (x / 100000000) ++ eight (x % 100000000) ≡ decimal_text x
before_eight x h l =
    let a : x / 10000 / 10000 ≡ x / 100000000 = omega arith in
    let b : x / 10000 % 10000 ≡ x % 100000000 / 10000 = omega arith in
    let d : x % 10000 ≡ x % 100000000 % 10000 = omega arith in
    sym (four_more 16 x (omega arith) ∙ rw (four_more 12 (x / 10000) (omega arith), a, b, d, wider 11 8 (x / 100000000) (omega arith)) (append_assoc (decimal_text (x / 100000000)) _ _))

pub at_most_eight : (x : ℕ) → x < 100000000 → length (decimal_text x) ≤ 8
at_most_eight x h = rw (← wider 7 12 x h) (numeral-length 10 8 x)
