-- A record that the slice holds ends within it. Assumes nothing.
use Rattle.std.proofs.Common.{◌≡◌, ℕ, ◌+◌, ◌-◌, ◌*◌, ◌/◌, ◌<◌, ◌≤◌, length, length-take, length-drop, ap, add-mul, arith, lt-ltb}
use Rattle.std.proofs.Math.Nat.{le-div_iff_mul-le}
use Rattle.edges.proofs.Copied.{copied}
use Rattle.edges.proofs.records.put_record.Goals as goal

within : (n count size : ℕ) → 0 < n → count < size / n → count * n + n ≤ size
within n count size h l =
    let whole : (count + 1) * n ≤ size = (le-div_iff_mul-le {k = n} {x = count + 1} {y = size} h).0 (omega arith) in
    omega (arith, whole, add-mul count 1 n)

pub returns-then-count-words : goal.returns-then-count-words
returns-then-count-words g c =
    let a = c.args in
    let ends = within g.row.N a.count (length a.words.now) c.requires c.if-count-words.true in
    let copy = c.copy_from_slice.ensures in
    let size : length a.fields ≡ a.count * g.row.N + g.row.N - a.count * g.row.N = omega (arith, ends, ap length copy.after, copy.len, length-take {A = ℕ}, length-drop {A = ℕ}) in
    rw (lt-ltb _ _ c.if-count-words.true, copy.after) (copied a.words.now a.fields (a.count * g.row.N) _ size (omega (arith, ends)))
