-- Bytes taken one after the other: a line is gathered at once, a turn takes what comes next of a piece, and what is read piece by piece is written so. Assumes nothing.
use Rattle.std.proofs.Common.{◌≡◌, ℕ, suc, ◌+◌, ◌-◌, ◌^◌, ◌<◌, ◌≤◌, min, Bool, true, false, cond, eqb, List, [], ◌∷◌, ◌++◌, length, take, drop, sym, refl, ap, ◌∙◌, ap₂, append-nil, subst, true≢false, length-append, arith, length-drop, length-set, take_all, take-add, ltb-false, ltb-true, eqb-true}
use native.Mathlib.Nat.{min-eq_left}
use Rattle.std.specs.Prelude.{Option, None, Some, IfSome}
use Rattle.std.specs.Io.KnownBytes.{Appends, Consumes, IsAtEnd}
use Rattle.std.proofs.KnownBytes.{Appends-nil, Appends-trans, Consumes-nil, Consumes-trans}
use lib.Seq.{sets}
use Rattle.bitvec.proofs.Base.{by_le}
use Rattle.listing_input.specs.Gather.{line_bytes, line_ends, line_next}
use Rattle.listing_input.specs.Text.{before}
use Rattle.listing_start.specs.Start.{concat}
use Rattle.lowering.specs.Lowering.{Lent}
use Rattle.state.specs.declared.State.{State}
use Rattle.text.specs.Put.{Put}
use Rattle.text.proofs.Laws.{then, put_length}
use Rattle.listing_bytes.specs.Storage.{out_room}
use Rattle.listing_bytes.specs.Pieces.{Progress, progress, reading, Told, told, and_then, line_ended, byte_held, take_byte, take_bytes, take_pieces, input_ended, start}
use Rattle.listing_bytes.specs.Listing.{listing}
use Rattle.listing_bytes.specs.Laws.{TextFits}
use Rattle.listing_bytes.proofs.Whole.{two_pieces, any_pieces}
use Rattle.listing_run.specs.Turn.{line_on, Reaches, Lists}

pub here : (p : Progress) → Reaches p p
unfolding take_bytes
here p = record { input = []; is = refl }

pub further : {p q r : Progress} → Reaches p q → Reaches q r → Reaches p r
further {p} {q} {r} u v = record {
  input = u.input ++ v.input;
  is = v.is ∙ ap (λ (x : Progress). (take_bytes v.input x).progress) u.is ∙ sym (ap (λ (t : Told). t.progress) (two_pieces u.input v.input p));
}

-- the text of some bytes and then of more
pub text_after : (s t : List ℕ) (p q : Progress) → q ≡ (take_bytes s p).progress → (take_bytes s p).text ++ (take_bytes t q).text ≡ (take_bytes (s ++ t) p).text
text_after s t p q e =
    ap (λ (x : Progress). (take_bytes s p).text ++ (take_bytes t x).text) e ∙ sym (ap (λ (u : Told). u.text) (two_pieces s t p))

-- ---- what is read, and what is written

-- nothing more came
pub nothing : {unread unread' written : Option (List ℕ)} {p : Progress} {least : ℕ} (n : ℕ) (piece : List ℕ) → n ≡ 0 → Consumes unread unread' (take n piece) → IsAtEnd unread'
    → Lists unread unread' written written p p false least
unfolding take_bytes
nothing {unread} {unread'} {written} n piece z r e = record { input = []; read = subst (λ (k : ℕ). Consumes unread unread' (take k piece)) z r; is = refl; wrote = Appends-nil written; ended = λ _. e; goes_on = λ f. absurd (true≢false (sym f)) }

-- nothing has been read yet
pub not_begun : {unread written : Option (List ℕ)} {p : Progress} → Lists unread unread written written p p true 0
unfolding take_bytes
not_begun {unread = unread} {written = written} = record { input = []; read = Consumes-nil unread; is = refl; wrote = Appends-nil written; ended = λ f. absurd (true≢false f); goes_on = λ _. omega arith }

-- and then a piece more
pub goes_on : {a b c x y z : Option (List ℕ)} {p q r : Progress} {more : Bool} {least : ℕ} → Lists a b x y p q true least → Lists b c y z q r more 1 → Lists a c x z p r more (least + 1)
unfolding further
goes_on {a} {b} {c} {x} {y} {z} {p} {q} {r} {more} {least} u v = record {
  input = u.input ++ v.input;
  read = Consumes-trans a b c u.input v.input u.read v.read;
  is = (further (record { input = u.input; is = u.is }) (record { input = v.input; is = v.is })).is;
  wrote = subst (Appends x z) (text_after u.input v.input p q u.is) (Appends-trans x y z _ _ u.wrote v.wrote);
  ended = v.ended;
  goes_on = λ e. let m = u.goes_on refl in let n = v.goes_on e in omega (arith, length-append u.input v.input);
}

-- where no more is to be read, any number of bytes may have been read
pub no_more : {a b x y : Option (List ℕ)} {p q : Progress} {least least' : ℕ} → Lists a b x y p q false least → Lists a b x y p q false least'
no_more u = record { input = u.input; read = u.read; is = u.is; wrote = u.wrote; ended = u.ended; goes_on = λ f. absurd (true≢false (sym f)) }

pub reached : {a b x y : Option (List ℕ)} {p q : Progress} {more : Bool} {least : ℕ} → Lists a b x y p q more least → Reaches p q
reached u = record { input = u.input; is = u.is }

-- a whole input, and what is written where it has ended
module _ (input : List ℕ) (short : length input < 2 ^ 64 - 1) where
  in_one : (take_bytes input start).text ++ (input_ended (take_bytes input start).progress).text ≡ listing input
  unfolding take_pieces concat
  in_one =
      let all : input ++ [] ≡ input = append-nil input in
      let t = (take_bytes input start).text in
      let e = any_pieces (input ∷ []) (rw all short) in
      ap (λ (s : List ℕ). s ++ (input_ended (take_bytes input start).progress).text) (sym (append-nil t)) ∙ e ∙ ap listing all

  pub in_whole : {q : Progress} → q ≡ (take_bytes input start).progress → (take_bytes input start).text ++ (input_ended q).text ≡ listing input
  in_whole e = ap (λ (x : Progress). (take_bytes input start).text ++ (input_ended x).text) e ∙ in_one

-- what has been read to its end is all of an input, and what was written is its listing
all_listed : (unread unread' written before written' : Option (List ℕ)) {q : Progress} {more : Bool} → Lists unread unread' written before start q more (2 ^ 64 - 1)
    → Appends before written' (input_ended q).text → IfSome unread (λ input. length input < 2 ^ 64 - 1 → Appends written written' (listing input))
all_listed None unread' written before written' u last = tt
all_listed (Some xs) None written before written' u last = absurd u.read
all_listed (Some xs) (Some ys) written before written' {q} {more} u last = λ h. at more refl h
  where
    at : (m : Bool) → more ≡ m → length xs < 2 ^ 64 - 1 → Appends written written' (listing xs)
    at true e h = let n = u.goes_on e in let k = ap length u.read in absurd (omega (arith, length-append u.input ys))
    at false e h =
        let all : xs ≡ u.input = u.read ∙ ap (λ (s : List ℕ). u.input ++ s) (u.ended e) ∙ append-nil u.input in
        subst (λ (s : List ℕ). Appends written written' (listing s)) (sym all)
        (subst (Appends written written') (in_whole u.input (rw (sym all) h) u.is) (Appends-trans written before written' _ _ u.wrote last))

pub listed : {unread unread' written before : Option (List ℕ)} {p q : Progress} {more : Bool} → p ≡ start → Lists unread unread' written before p q more (2 ^ 64 - 1)
    → {text : List ℕ} → text ≡ (input_ended q).text → (written' : Option (List ℕ)) → Appends before written' text
    → IfSome unread (λ input. length input < 2 ^ 64 - 1 → Appends written written' (listing input))
listed {unread} {unread'} {written} {before} {p} {q} {more} e u {text} f written' last =
    all_listed unread unread' written before written' (subst (λ (x : Progress). Lists unread unread' written before x q more (2 ^ 64 - 1)) e u) (subst (Appends before written') f last)

-- ---- parts of the code's answers

pub take_min : (n : ℕ) (l : List ℕ) → take (min n (length l)) l ≡ take n l
take_min n l =
    by_le n (length l)
    (λ h. ap (λ (k : ℕ). take k l) (min-eq_left h))
    (λ h. take_all (min n (length l)) l (omega arith) ∙ sym (take_all n l (omega arith)))

-- what is put from an output's start, and has room, ends in it
pub put_within : {out text out' : List ℕ} {n : ℕ} → Put out 0 text out' n → length text ≤ out_room → length out ≡ out_room → n ≤ length out'
put_within u h k = omega (arith, u.next, put_length u)

pub same_progress : {l l' : Lent} {st st' : State} {line : List ℕ} {n held : ℕ} → l ≡ l' → st ≡ st' → progress l line (reading st n held) ≡ progress l' line (reading st' n held)
same_progress {line = line} {n = n} {held = held} p q = λ i. progress (p i) line (reading (q i) n held)

-- ---- a line

-- the bytes are held
abbrev pub bytes_held : List ℕ → Progress → Progress
bytes_held bs p =
    let r = p.reading in
    progress p.lent (sets p.line r.held bs) (reading r.state r.number (min (r.held + length bs) (2 ^ 64 - 1)))

-- which is what was put after those that were held
pub held_is : {bs line : List ℕ} {held : ℕ} (p : Progress) → Put p.line p.reading.held bs line held → progress p.lent line (reading p.reading.state p.reading.number held) ≡ bytes_held bs p
held_is p u = λ i. progress p.lent (u.list i) (reading p.reading.state p.reading.number (u.next i))

held_more : (b : ℕ) (bs : List ℕ) (p : Progress) → length p.line < 2 ^ 64 → bytes_held bs (byte_held b p) ≡ bytes_held (b ∷ bs) p
unfolding byte_held
held_more b bs p h =
    let r = p.reading in
    let both = then {l = p.line} {at = r.held} {s = b ∷ []} {t = bs} h (record { list = refl; next = refl }) (record { list = refl; next = refl }) in
    ap₂ (λ (l : List ℕ) (n : ℕ). progress p.lent l (reading r.state r.number n)) both.list both.next

-- up to a newline, every byte is
gathered : (s : List ℕ) (p : Progress) → length p.line < 2 ^ 64 → p.reading.held < 2 ^ 64 → take_bytes (take (before 10 s) s) p ≡ told (bytes_held (take (before 10 s) s) p) []
unfolding take_bytes before take_byte byte_held
gathered [] p h k = let e : min (p.reading.held + 0) (2 ^ 64 - 1) ≡ p.reading.held = omega arith in rw e
gathered (b ∷ s) p h k = go (eqb b 10) refl (gathered s (byte_held b p) (rw (length-set p.line p.reading.held b) h) (omega arith))
  where
    go : (t : Bool) → eqb b 10 ≡ t → take_bytes (take (before 10 s) s) (byte_held b p) ≡ told (bytes_held (take (before 10 s) s) (byte_held b p)) []
        → take_bytes (take (cond t 0 (suc (before 10 s))) (b ∷ s)) p ≡ told (bytes_held (take (cond t 0 (suc (before 10 s))) (b ∷ s)) p) []
    go true e rest = let e : min (p.reading.held + 0) (2 ^ 64 - 1) ≡ p.reading.held = omega arith in rw e
    go false e rest = rw e (rest ∙ ap (λ (q : Progress). told q []) (held_more b (take (before 10 s) s) p h))

-- and nothing is written, whatever is held
quiet : (s : List ℕ) (p : Progress) → (take_bytes (take (before 10 s) s) p).text ≡ []
unfolding take_bytes before take_byte
quiet [] p = refl
quiet (b ∷ s) p = go (eqb b 10) refl (quiet s (byte_held b p))
  where
    go : (t : Bool) → eqb b 10 ≡ t → (take_bytes (take (before 10 s) s) (byte_held b p)).text ≡ [] → (take_bytes (take (cond t 0 (suc (before 10 s))) (b ∷ s)) p).text ≡ []
    go true e rest = refl
    go false e rest = rw e rest

-- and the newline stands after them
newline_after : (s : List ℕ) → before 10 s < length s → take (before 10 s + 1) s ≡ take (before 10 s) s ++ (10 ∷ [])
unfolding before
newline_after [] h = absurd (omega arith)
newline_after (b ∷ s) h = go (eqb b 10) refl h (newline_after s)
  where
    go : (t : Bool) → eqb b 10 ≡ t → cond t 0 (suc (before 10 s)) < suc (length s)
        → (before 10 s < length s → take (before 10 s + 1) s ≡ take (before 10 s) s ++ (10 ∷ []))
        → take (cond t 0 (suc (before 10 s)) + 1) (b ∷ s) ≡ take (cond t 0 (suc (before 10 s))) (b ∷ s) ++ (10 ∷ [])
    go true e k rest = ap (λ (x : ℕ). x ∷ []) (eqb-true b 10 e)
    go false e k rest =
        let n : suc (before 10 s) + 1 ≡ suc (before 10 s + 1) = omega arith in
        rw n (ap (λ (x : List ℕ). b ∷ x) (rest (omega arith)))

-- ---- where the input has ended

pub end_fits : TextFits → (p : Progress) → length (input_ended p).text ≤ out_room
unfolding input_ended line_ended
end_fits fits p = go (eqb p.reading.held 0)
  where
    go : (t : Bool) → length (cond t (told p []) (line_ended p)).text ≤ out_room
    go true = omega arith
    go false = fits _ _ _ _

-- ---- of a piece, from a place on

module _ (piece : List ℕ) (from : ℕ) where
  abbrev rest : List ℕ
  rest = drop from piece

  -- a newline ends the line, or there is none in the piece
  ended_part : line_ends piece from ≡ true → line_on piece from ≡ line_bytes piece from ++ (10 ∷ [])
  unfolding line_next line_ends line_bytes
  ended_part e =
      let n : from + before 10 rest + 1 - from ≡ before 10 rest + 1 = omega arith in
      rw (e, n) (newline_after rest (ltb-true (before 10 rest) (length rest) e))

  open_part : line_ends piece from ≡ false → line_on piece from ≡ line_bytes piece from
  unfolding line_next line_ends line_bytes
  open_part e =
      let all = ltb-false (before 10 rest) (length rest) e in
      let long = length-drop from piece in
      rw e (take_all (length piece - from) rest (omega (arith, long)) ∙ sym (take_all (before 10 rest) rest all))

  -- a turn goes on in the piece, and not past its end
  pub next_on : from < length piece → from < line_next piece from
  unfolding line_next line_ends
  next_on h = go (line_ends piece from)
    where
      go : (t : Bool) → from < cond t (from + before 10 rest + 1) (length piece)
      go true = omega arith
      go false = h

  next_least : from ≤ length piece → from ≤ line_next piece from
  unfolding line_next line_ends
  next_least h = go (line_ends piece from)
    where
      go : (t : Bool) → from ≤ cond t (from + before 10 rest + 1) (length piece)
      go true = omega arith
      go false = h

  pub next_within : line_next piece from ≤ length piece
  unfolding line_next line_ends
  next_within = go (line_ends piece from) refl
    where
      go : (t : Bool) → line_ends piece from ≡ t → cond t (from + before 10 rest + 1) (length piece) ≤ length piece
      go true e = omega (arith, ltb-true (before 10 rest) (length rest) e, length-drop from piece)
      go false e = omega arith

  -- what has been taken of a piece, and a turn more
  turn_more : from ≤ line_next piece from → take from piece ++ line_on piece from ≡ take (line_next piece from) piece
  turn_more h = sym (take-add from (line_next piece from - from) piece) ∙ ap (λ (n : ℕ). take n piece) (let e : from + (line_next piece from - from) ≡ line_next piece from = omega arith in e)

  pub turn : (p₀ : Progress) {p q : Progress} {next : ℕ} → from ≤ length piece → p ≡ (take_bytes (take from piece) p₀).progress → q ≡ (take_bytes (line_on piece from) p).progress
      → next ≡ line_next piece from → q ≡ (take_bytes (take next piece) p₀).progress
  turn p₀ {p} {q} {next} h so on is =
      let e : take from piece ++ line_on piece from ≡ take next piece = turn_more (next_least h) ∙ ap (λ (n : ℕ). take n piece) (sym is) in
      on ∙ ap (λ (x : Progress). (take_bytes (line_on piece from) x).progress) so
      ∙ sym (ap (λ (t : Told). t.progress) (two_pieces (take from piece) (line_on piece from) p₀))
      ∙ ap (λ (s : List ℕ). (take_bytes s p₀).progress) e

  -- so what a turn leaves is reached
  pub turn_reaches : {p₀ p q : Progress} {next : ℕ} → q ≡ (take_bytes (line_on piece from) p).progress → p ≡ (take_bytes (take from piece) p₀).progress → from ≤ length piece
      → next ≡ line_next piece from → Reaches p₀ q
  turn_reaches {p₀} {next = next} on so h is = record { input = take next piece; is = turn p₀ h so on is }

  -- and its text follows
  pub turn_text : (p₀ : Progress) {p : Progress} {next : ℕ} → from ≤ length piece → p ≡ (take_bytes (take from piece) p₀).progress → next ≡ line_next piece from
      → (take_bytes (take next piece) p₀).text ≡ (take_bytes (take from piece) p₀).text ++ (take_bytes (line_on piece from) p).text
  turn_text p₀ {p} {next} h so is =
      let e : take from piece ++ line_on piece from ≡ take next piece = turn_more (next_least h) ∙ ap (λ (n : ℕ). take n piece) (sym is) in
      sym (text_after (take from piece) (line_on piece from) p₀ p so ∙ ap (λ (s : List ℕ). (take_bytes s p₀).text) e)

  -- what a turn writes is a line's text, or nothing
  pub turn_fits : TextFits → (p : Progress) → length (take_bytes (line_on piece from) p).text ≤ out_room
  unfolding take_bytes take_byte line_bytes line_ended
  turn_fits fits p = go (line_ends piece from) refl
    where
      go : (t : Bool) → line_ends piece from ≡ t → length (take_bytes (line_on piece from) p).text ≤ out_room
      go true e =
          let q = (take_bytes (line_bytes piece from) p).progress in
          let parts : (take_bytes (line_on piece from) p).text ≡ (take_bytes (line_bytes piece from) p).text ++ ((line_ended q).text ++ []) =
          ap (λ (s : List ℕ). (take_bytes s p).text) (ended_part e) ∙ ap (λ (t : Told). t.text) (two_pieces (line_bytes piece from) (10 ∷ []) p) in
          rw (parts, quiet rest p, append-nil) (fits _ _ _ _)
      go false e = rw (open_part e, quiet rest p) (omega arith)

  module _ (p : Progress) (h : length p.line < 2 ^ 64) (k : p.reading.held < 2 ^ 64) where
    pub taken_ended : line_ends piece from ≡ true → take_bytes (line_on piece from) p ≡ line_ended (bytes_held (line_bytes piece from) p)
    unfolding line_bytes take_bytes take_byte
    taken_ended e =
        ap (λ (s : List ℕ). take_bytes s p) (ended_part e) ∙ two_pieces (line_bytes piece from) (10 ∷ []) p
        ∙ ap (λ (t : Told). and_then t (take_bytes (10 ∷ []))) (gathered rest p h k) ∙ ap (told _) (append-nil _)

    pub taken_more : line_ends piece from ≡ false → take_bytes (line_on piece from) p ≡ told (bytes_held (line_bytes piece from) p) []
    unfolding line_bytes
    taken_more e = ap (λ (s : List ℕ). take_bytes s p) (open_part e) ∙ gathered rest p h k
