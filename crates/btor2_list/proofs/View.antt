-- The view of the lent words: a put after the last line adds that line and changes no other, and reading what was written gives it
-- back. Assumes nothing.
use Rattle.std.specs.Prelude.{Option}
use Prim.Native.Nat.{ℕ, zero, suc, ◌+◌, ◌≤◌, ◌<◌}
use mathlib.Core.Path.{◌≡◌, refl, ◌∙◌, ap, ap₂}
use mathlib.Core.Bool.{true}
use mathlib.Core.List.{List, [], ◌∷◌, ◌++◌}
use mathlib.Core.Logic.{⊎_elim}
use native.Mathlib.Omega.{arith}
use native.Mathlib.Nat.{add-zero, eq-or-lt_of_le}
use native.Mathlib.Numerals.{add-one}
use lib.ListN.{length, get_or, take, length-append, get_or-append}
use lib.Seq.{get_or-append-add, get_or-take, length-take-le}
use Rattle.btor2.specs.Op.{add, sub, mul, udiv, sdiv, urem, sll, srl, ult, Op, const, read, write, bin, uext, ite, eq, and, or, not, state, state_init, next, input, bad, unknown}
use Rattle.btor2.proofs.Sort.{sort_back}
use Rattle.btor2_list.specs.declared.Line.{Line}
use Rattle.btor2_list.specs.Record.{record_at, holds, put_at, capacity, words_for}
use Rattle.btor2_list.specs.Node.{Node, node, line_of, op_of, node_of}
use Rattle.btor2_list.specs.View.{view}
use Rattle.btor2_list.proofs.Stored.{LineFits, same_words, put_node, put_other}

-- ---- a line that is written is read as itself

pub node_back : (address : Option ℕ) (nid : ℕ) (o : Op ℕ) → node_of (line_of address nid o) ≡ node address nid o
unfolding op_of
node_back address nid (const s n) = rw sort_back
node_back address nid (read m a) = refl
node_back address nid (write m a v) = refl
node_back address nid (bin add a b) = refl
node_back address nid (bin sub a b) = refl
node_back address nid (bin mul a b) = refl
node_back address nid (bin udiv a b) = refl
node_back address nid (bin sdiv a b) = refl
node_back address nid (bin urem a b) = refl
node_back address nid (bin sll a b) = refl
node_back address nid (bin srl a b) = refl
node_back address nid (bin ult a b) = refl
node_back address nid (uext s a) = rw sort_back
node_back address nid (ite s c a b) = rw sort_back
node_back address nid (eq a b) = refl
node_back address nid (and s a b) = rw sort_back
node_back address nid (or s a b) = rw sort_back
node_back address nid (not s a) = rw sort_back
node_back address nid (state s m) = rw sort_back
node_back address nid (state_init s a m) = rw sort_back
node_back address nid (next s a b) = rw sort_back
node_back address nid (input s m) = rw sort_back
node_back address nid (bad a m) = refl
node_back address nid unknown = refl

-- ---- the view

pub view-length : (ws : List ℕ) (n : ℕ) → length (view ws n) ≡ n
unfolding view
view-length ws zero = refl
view-length ws (suc n) = length-append (view ws n) _ ∙ rw (view-length ws n) (omega arith)

pub view_at : (ws : List ℕ) (n : ℕ) (d : Node) (p : ℕ) → p < n → get_or (view ws n) p d ≡ node_of (record_at ws p)
unfolding view
view_at ws zero d p h = absurd (omega arith)
view_at ws (suc n) d p h =
    ⊎_elim
    (λ e. rw e (rw (view-length ws n, add-zero) at (get_or-append-add (view ws n) (node_of (record_at ws n) ∷ []) 0 d)))
    (λ l. get_or-append (view ws n) _ d p (rw (view-length ws n) l) ∙ view_at ws n d p l)
    (eq-or-lt_of_le {n = p} {m = n} (omega arith))

-- a put at place n or later leaves the first n lines
pub view_kept : (ws : List ℕ) (p : ℕ) (l : Line) (n : ℕ) → n ≤ p → view (put_at ws p l) n ≡ view ws n
unfolding view
view_kept ws p l zero h = refl
view_kept ws p l (suc n) h =
    let v = view_kept ws p l n (omega arith) in
    let d = put_other ws p l n (omega arith) in
    λ i. v i ++ (node_of (d i) ∷ [])

-- and at place n is line n
pub view_put : (ws : List ℕ) (n : ℕ) (l : Line) → holds ws n ≡ true → LineFits l → view (put_at ws n l) (n + 1) ≡ view ws n ++ (node_of l ∷ [])
unfolding view
view_put ws n l there fits =
    let v = view_kept ws n l n (omega arith) in
    let d = put_node ws n l there fits in
    rw add-one (λ i. v i ++ (d i ∷ []))

-- only the words in use count
pub view_agree : (ws vs : List ℕ) (n : ℕ) → ((j : ℕ) → j < words_for n → get_or ws j 0 ≡ get_or vs j 0) → view ws n ≡ view vs n
unfolding view
view_agree ws vs zero h = refl
view_agree ws vs (suc n) h =
    ap₂ (λ (l : List Node) (m : Node). l ++ (m ∷ []))
    (view_agree ws vs n (λ j l. h j (omega arith)))
    (ap node_of (same_words ws vs n n (λ k l. h (words_for n + k) (omega arith))))

-- cut to its first n lines, a list has these lines
pub cut_view : (ws : List ℕ) (n : ℕ) → n ≤ capacity (length ws) → view (take (words_for n) ws) n ≡ view ws n
cut_view ws n h = view_agree (take (words_for n) ws) ws n (λ j l. get_or-take (words_for n) ws j 0 l)

pub cut_capacity : (ws : List ℕ) (n : ℕ) → n ≤ capacity (length ws) → capacity (length (take (words_for n) ws)) ≡ n
cut_capacity ws n h = rw (length-take-le (words_for n) ws (omega arith)) (omega arith)
