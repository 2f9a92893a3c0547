-- Lines that are put without an address and then given one are the lines put with it. Assumes nothing.
use Rattle.std.specs.Prelude.{Option, Some, None}
use Prim.Native.Nat.{ℕ, zero, suc, ◌+◌, ◌-◌, ◌/◌, ◌%◌, ◌≤◌, ◌<◌}
use mathlib.Core.Path.{◌≡◌, refl, ap, ◌∙◌}
use mathlib.Core.Bool.{Bool, true, false, cond}
use mathlib.Core.List.{List, [], ◌∷◌}
use native.Mathlib.Omega.{arith}
use native.Mathlib.Nat.{add-zero}
use native.Mathlib.Numerals.{add-one}
use borrow.Author.Tests.{ltb-true, lt-ltb, le-ltb, eq-eqb}
use lib.Dec.{eqb}
use lib.ListN.{length, get_or, set, length-set}
use lib.Seq.{sets, set-set, set_comm}
use Rattle.btor2.specs.Op.{Op, const, read, write, bin, uext, ite, eq, and, or, not, state, state_init, next, input, bad, unknown}
use Rattle.btor2_list.specs.declared.Line.{Line}
use Rattle.btor2_list.specs.Record.{capacity, words_for, address_mark_in, head_of, marked, with_mark, words, holds, put_at, with_address, address_lines}
use Rattle.btor2_list.specs.Node.{line_of}
use Rattle.btor2_list.proofs.Stored.{below, within, no_mark, put_length}

-- ---- no word more or less

pub with_length : (ws : List ℕ) (i a : ℕ) → length (with_address ws i a) ≡ length ws
with_length ws i a = length-set (set ws i _) (i + 4) a ∙ length-set ws i _

pub addressed_length : (ws : List ℕ) (p n a : ℕ) → length (address_lines ws p n a) ≡ length ws
unfolding address_lines
addressed_length ws p zero a = refl
addressed_length ws p (suc n) a = go (holds vs (p + n)) ∙ addressed_length ws p n a
  where
    vs : List ℕ
    vs = address_lines ws p n a

    go : (t : Bool) → length (cond t (with_address vs (words_for (p + n)) a) vs) ≡ length vs
    go true = with_length vs (words_for (p + n)) a
    go false = refl

-- ---- one record

-- the same line with an address, or with none
abbrev pub for : Option ℕ → Line → Line
for w l = record { nid = l.nid; kind = l.kind; sort = l.sort; op1 = l.op1; op2 = l.op2; op3 = l.op3; imm = l.imm; name = l.name; address = w }

line_for : (w v : Option ℕ) (nid : ℕ) (o : Op ℕ) → line_of w nid o ≡ for w (line_of v nid o)
line_for w v nid (const s n) = refl
line_for w v nid (read m a) = refl
line_for w v nid (write m a x) = refl
line_for w v nid (bin o a b) = refl
line_for w v nid (uext s a) = refl
line_for w v nid (ite s c a b) = refl
line_for w v nid (eq a b) = refl
line_for w v nid (and s a b) = refl
line_for w v nid (or s a b) = refl
line_for w v nid (not s a) = refl
line_for w v nid (state s m) = refl
line_for w v nid (state_init s a m) = refl
line_for w v nid (next s a b) = refl
line_for w v nid (input s m) = refl
line_for w v nid (bad a m) = refl
line_for w v nid unknown = refl

pub line_address : (w : Option ℕ) (nid : ℕ) (o : Op ℕ) → (line_of w nid o).address ≡ w
line_address w nid o = ap (λ (l : Line). l.address) (line_for w w nid o)

-- a word before a run of words
set_before : (vs ws : List ℕ) (i j b : ℕ) → j < i → set (sets ws i vs) j b ≡ sets (set ws j b) i vs
set_before [] ws i j b h = refl
set_before (v ∷ vs) ws i j b h = set_before vs (set ws i v) (suc i) j b (omega arith) ∙ ap (λ (m : List ℕ). sets m (suc i) vs) (set_comm ws i j v b (λ e. omega arith))

-- the first and the fifth of five words
set_ends : (ws : List ℕ) (i a b c d e x y : ℕ) → set (set (sets ws i (a ∷ b ∷ c ∷ d ∷ e ∷ [])) i x) (i + 4) y ≡ sets ws i (x ∷ b ∷ c ∷ d ∷ y ∷ [])
set_ends ws i a b c d e x y =
    let fifth : i + 4 ≡ suc (suc (suc (suc i))) = omega arith in
    ap (λ (m : List ℕ). set m (i + 4) y) (set_before (b ∷ c ∷ d ∷ e ∷ []) (set ws i a) (suc i) i x (omega arith) ∙ ap (λ (m : List ℕ). sets m (suc i) (b ∷ c ∷ d ∷ e ∷ [])) (set-set ws i a x))
    ∙ rw fifth (set-set (sets (set ws i x) (suc i) (b ∷ c ∷ d ∷ [])) _ e y)

mark_put : (h a : ℕ) → address_mark_in h ≡ 0 → with_mark h ≡ marked h (Some a)
mark_put h a none = rw (eq-eqb (h / 268435456 % 2) 0 (omega arith))

five_addressed : (ws : List ℕ) (i h b c d e a : ℕ) → i + 5 ≤ length ws → address_mark_in h ≡ 0
    → with_address (sets ws i (h ∷ b ∷ c ∷ d ∷ e ∷ [])) i a ≡ sets ws i (marked h (Some a) ∷ b ∷ c ∷ d ∷ a ∷ [])
five_addressed ws i h b c d e a room none =
    let first : get_or (sets ws i (h ∷ b ∷ c ∷ d ∷ e ∷ [])) i 0 ≡ h = rw add-zero at (within (h ∷ b ∷ c ∷ d ∷ e ∷ []) ws i 0 (omega arith) room) in
    ap (λ (x : ℕ). set (set (sets ws i (h ∷ b ∷ c ∷ d ∷ e ∷ [])) i x) (i + 4) a) (ap with_mark first ∙ mark_put h a none)
    ∙ set_ends ws i h b c d e _ a

pub put_addressed : (ws : List ℕ) (p : ℕ) (l : Line) (a : ℕ) → holds ws p ≡ true → with_address (put_at ws p (for None l)) (words_for p) a ≡ put_at ws p (for (Some a) l)
put_addressed ws p l a there =
    let room : p < capacity (length ws) = ltb-true _ _ there in
    let init : ℕ = cond (eqb l.kind 19) l.imm 0 in
    rw (there, add-zero (head_of l.kind l.sort l.name.area init l.nid.0))
    (five_addressed ws (words_for p) _ _ _ _ _ a (omega arith) (no_mark l.kind l.sort l.name.area init l.nid.0))

-- ---- a put after them

put_after : (ws : List ℕ) (p q : ℕ) (l : Line) (a : ℕ) → p < q → with_address (put_at ws q l) (words_for p) a ≡ put_at (with_address ws (words_for p) a) q l
put_after ws p q l a h = rw (with_length ws i a) (go (holds ws q))
  where
    i : ℕ
    i = words_for p

    go : (t : Bool) → with_address (cond t (sets ws (words_for q) (words l)) ws) i a ≡ cond t (sets (with_address ws i a) (words_for q) (words l)) (with_address ws i a)
    go true =
        rw (below (words l) ws (words_for q) i (omega arith))
        (ap (λ (m : List ℕ). set m (i + 4) a) (set_before (words l) ws (words_for q) i _ (omega arith)) ∙ set_before (words l) (set ws i _) (words_for q) (i + 4) a (omega arith))
    go false = refl

lines_after : (ws : List ℕ) (p n q : ℕ) (l : Line) (a : ℕ) → p + n ≤ q → address_lines (put_at ws q l) p n a ≡ put_at (address_lines ws p n a) q l
unfolding address_lines
lines_after ws p zero q l a h = refl
lines_after ws p (suc n) q l a h = rw (lines_after ws p n q l a (omega arith), put_length us q l) (go (holds us (p + n)))
  where
    us : List ℕ
    us = address_lines ws p n a

    go : (t : Bool) → cond t (with_address (put_at us q l) (words_for (p + n)) a) (put_at us q l) ≡ put_at (cond t (with_address us (words_for (p + n)) a) us) q l
    go true = put_after us (p + n) q l a (omega arith)
    go false = refl

-- the n lines from place p on have the address, and one more is put
pub address_put : (ws : List ℕ) (p n nid : ℕ) (o : Op ℕ) (a : ℕ) → holds ws (p + n) ≡ true → address_lines (put_at ws (p + n) (line_of None nid o)) p (n + 1) a ≡ put_at (address_lines ws p n a) (p + n) (line_of (Some a) nid o)
unfolding address_lines
address_put ws p n nid o a there =
    let us : List ℕ = address_lines ws p n a in
    let there' : holds us (p + n) ≡ true = rw (addressed_length ws p n a) there in
    rw (add-one, lines_after ws p n (p + n) (line_of None nid o) a (omega arith), put_length us (p + n) (line_of None nid o), there', line_for None None nid o, line_for (Some a) None nid o)
    (rw there' at (put_addressed us (p + n) (line_of None nid o) a there'))

-- one more, where the words hold it, and none past them
pub address_one : (ws : List ℕ) (p q a : ℕ) → p ≤ q → q < capacity (length ws) → with_address (address_lines ws p (q - p) a) (words_for q) a ≡ address_lines ws p (suc q - p) a
unfolding address_lines
address_one ws p q a h room =
    let more : suc q - p ≡ suc (q - p) = omega arith in
    let there : p + (q - p) ≡ q = omega arith in
    rw (more, there, addressed_length ws p (q - p) a, lt-ltb q (capacity (length ws)) room)

pub address_past : (ws : List ℕ) (p n k a : ℕ) → capacity (length ws) ≤ p + n → address_lines ws p (n + k) a ≡ address_lines ws p n a
unfolding address_lines
address_past ws p n zero a h = rw add-zero
address_past ws p n (suc k) a h =
    let more : n + suc k ≡ suc (n + k) = omega arith in
    rw (more, addressed_length ws p (n + k) a, le-ltb (p + (n + k)) (capacity (length ws)) (omega arith)) (address_past ws p n k a h)
