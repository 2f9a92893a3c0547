-- What is read in pieces is the listing of the whole. Assumes nothing.
use Prim.Native.Nat.{ℕ, ◌+◌, ◌-◌, ◌^◌, ◌≤◌, ◌<◌}
use native.Mathlib.Nat.{mod-eq_of_lt}
use native.Mathlib.Numerals.{add-one}
use native.Mathlib.Omega.{arith}
use mathlib.Core.Path.{◌≡◌, refl, sym, ap, ◌∙◌}
use mathlib.Core.Bool.{Bool, true, false, cond}
use mathlib.Core.List.{List, [], ◌∷◌, ◌++◌, append_assoc, append-nil}
use borrow.Author.Tests.{ne_eqb, lt-leb}
use lib.Dec.{eqb}
use lib.ListN.{length, take, set, length-append, length-take, length-set}
use lib.Seq.{take-nil, take_all, take-append-le, take-suc-set, set_out}
use Rattle.bitvec.proofs.Base.{by_le}
use Rattle.listing_input.specs.Gather.{newline_byte}
use Rattle.listing_input.specs.Line.{parse_line}
use Rattle.listing_start.specs.Start.{concat}
use Rattle.lowering.specs.Lowering.{Lent}
use Rattle.state.specs.declared.State.{State}
use Rattle.listing_bytes.specs.Step.{Step, step}
use Rattle.listing_bytes.specs.Storage.{line_room}
use Rattle.listing_bytes.specs.Listing.{last_line, lines_from, steps, reached}
use Rattle.listing_bytes.specs.Pieces.{Progress, Told, told, and_then, line_ended, byte_held, take_byte, take_bytes, take_pieces, input_ended, start}
use Rattle.listing_bytes.specs.Laws.{TwoPieces, AnyPieces}
use Rattle.listing_bytes.proofs.Room.{zeros}

-- ---- pieces

pub two_pieces : TwoPieces
unfolding take_bytes
two_pieces [] b p = refl
two_pieces (x ∷ a) b p =
    let t = take_byte x p in
    ap (λ (u : Told). told u.progress (t.text ++ u.text)) (two_pieces a b t.progress)
    ∙ ap (told _) (sym (append_assoc t.text _ _))

pieces_joined : (pieces : List (List ℕ)) (p : Progress) → take_pieces pieces p ≡ take_bytes (concat pieces) p
unfolding take_pieces take_bytes concat
pieces_joined [] p = refl
pieces_joined (piece ∷ pieces) p =
    ap (λ (u : Told). told u.progress ((take_bytes piece p).text ++ u.text)) (pieces_joined pieces (take_bytes piece p).progress)
    ∙ sym (two_pieces piece (concat pieces) p)

-- ---- a line that is longer than what is kept of it is malformed like it

cut_step : (number : ℕ) (line : List ℕ) (n : ℕ) (l : Lent) (st : State) → line_room ≤ n → step number (take n line) l st ≡ step number line l st
unfolding step parse_line
cut_step number line n l st h =
    by_le (length line) n
    (λ short. rw (take_all n line short))
    (λ long.
    let cut = length-take n line in
    rw (lt-leb (length line) 256 (omega arith), lt-leb (length (take n line)) 256 (omega (arith, cut))))

-- ---- what is kept of the bytes of a line

pub record Keeps (p : Progress) (line : List ℕ) (number : ℕ) : Type 0 where
  pub room : line_room ≤ length p.line
  pub held : p.reading.held ≡ length line
  pub bytes : take (length line) p.line ≡ take (length p.line) line
  pub counted : p.reading.number ≡ number

byte_more : (b : ℕ) (p : Progress) (line : List ℕ) (number : ℕ) → length line < 2 ^ 64 - 1 → Keeps p line number → Keeps (byte_held b p) (line ++ (b ∷ [])) number
unfolding byte_held
byte_more b p line number small k =
    let n : length (line ++ (b ∷ [])) ≡ length line + 1 = length-append line (b ∷ []) in
    let size = length-set p.line p.reading.held b in
    record {
      room = omega (arith, size, k.room);
      held = omega (arith, n, k.held);
      bytes = rw (n, size, k.held) kept;
      counted = k.counted;
    }
  where
    kept : take (length line + 1) (set p.line (length line) b) ≡ take (length p.line) (line ++ (b ∷ []))
    kept =
        by_le (length p.line) (length line)
        (λ full.
        let whole : p.line ≡ take (length p.line) line = sym (take_all (length line) p.line full) ∙ k.bytes in
        rw (set_out p.line (length line) b full) (take_all (length line + 1) p.line (omega arith) ∙ whole ∙ sym (take-append-le (length p.line) line (b ∷ []) full)))
        (λ free.
        let all : take (length p.line) line ≡ line = take_all (length p.line) line (omega arith) in
        let end : length (line ++ (b ∷ [])) ≤ length p.line = omega (arith, length-append line (b ∷ [])) in
        rw (add-one (length line)) (take-suc-set p.line (length line) b free ∙ ap (λ (x : List ℕ). x ++ (b ∷ [])) (k.bytes ∙ all) ∙ sym (take_all (length p.line) (line ++ (b ∷ [])) end)))

-- the line that is held is as good as the line
ended_is : (p : Progress) (line : List ℕ) (number : ℕ) → Keeps p line number → step p.reading.number (take p.reading.held p.line) p.lent p.reading.state ≡ step number line p.lent p.reading.state
ended_is p line number k = rw (k.counted, k.held, k.bytes) (cut_step number line (length p.line) p.lent p.reading.state k.room)

next_line : (p : Progress) (line : List ℕ) (number : ℕ) → number + 1 < 2 ^ 64 → Keeps p line number → Keeps (line_ended p).progress [] (number + 1)
unfolding line_ended
next_line p line number h k = record { room = k.room; held = refl; bytes = sym (take-nil (length p.line)); counted = rw k.counted (mod-eq_of_lt h) }

-- ---- the rest of an input

-- what is written of the rest, the end of the input with it
abbrev written_from : Progress → List ℕ → List ℕ
written_from p bs = (and_then (take_bytes bs p) input_ended).text

end_is : (p : Progress) (line : List ℕ) (number : ℕ) → Keeps p line number → (input_ended p).text ≡ (steps number (last_line line) p.lent p.reading.state).text
unfolding input_ended line_ended steps
end_is p [] number k = rw k.held
end_is p (b ∷ line) number k =
    let some : eqb p.reading.held 0 ≡ false = ne_eqb p.reading.held 0 (λ z. omega (arith, k.held)) in
    rw some (ap (λ (s : Step). s.text) (ended_is p (b ∷ line) number k) ∙ sym (append-nil _))

rest_is : (bs : List ℕ) (p : Progress) (line : List ℕ) (number : ℕ) → length line + length bs < 2 ^ 64 - 1 → number + length bs < 2 ^ 64 → Keeps p line number
    → written_from p bs ≡ (steps number (lines_from line bs) p.lent p.reading.state).text
unfolding take_bytes take_byte lines_from line_ended byte_held steps
rest_is [] p line number h n k = end_is p line number k
rest_is (b ∷ bs) p line number h n k =
    let next = (line_ended p).progress in
    go (eqb b newline_byte) refl
    (rest_is bs next [] (number + 1) (omega arith) (omega arith) (next_line p line number (omega arith) k))
    (rest_is bs (byte_held b p) (line ++ (b ∷ [])) number (omega (arith, length-append line (b ∷ []))) (omega arith) (byte_more b p line number (omega arith) k))
  where
    go : (t : Bool) → eqb b newline_byte ≡ t
        → written_from (line_ended p).progress bs ≡ (steps (number + 1) (lines_from [] bs) (line_ended p).progress.lent (line_ended p).progress.reading.state).text
        → written_from (byte_held b p) bs ≡ (steps number (lines_from (line ++ (b ∷ [])) bs) (byte_held b p).lent (byte_held b p).reading.state).text
        → (and_then (and_then (cond t (line_ended p) (told (byte_held b p) [])) (take_bytes bs)) input_ended).text
        ≡ (steps number (cond t (line ∷ lines_from [] bs) (lines_from (line ++ (b ∷ [])) bs)) p.lent p.reading.state).text
    go true e ended more =
        let s = step p.reading.number (take p.reading.held p.line) p.lent p.reading.state in
        append_assoc s.text _ _ ∙ ap (λ (x : List ℕ). s.text ++ x) ended
        ∙ ap (λ (u : Step). u.text ++ (steps (number + 1) (lines_from [] bs) u.lent u.state).text) (ended_is p line number k)
    go false e ended more = more

pub any_pieces : AnyPieces
unfolding reached start
any_pieces pieces h =
    ap (λ (t : Told). (and_then t input_ended).text) (pieces_joined pieces start)
    ∙ rest_is (concat pieces) start [] 1 (omega arith) (omega arith)
    (record { room = omega (arith, zeros line_room); held = refl; bytes = sym (take-nil line_room); counted = refl })
