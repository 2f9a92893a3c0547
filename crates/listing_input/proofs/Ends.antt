-- Whether a newline was found among the bytes of a piece from a place on. Assumes nothing.
use Rattle.std.proofs.Common.{◌≡◌, ℕ, ◌+◌, ◌-◌, Bool, true, false, cond, ltb, eqb, List, [], length, take, drop, sym, refl, ◌∙◌, arith, length-drop, take_all, ltb-false}
use Rattle.std.specs.Prelude.{Option, Some, None}
use Rattle.std.specs.List.{PartBy, position_or_len}
use Rattle.std.specs.Option.{unwrap_or}
use denote.Ref.{Bor}
use Rattle.listing_input.specs.Text.{before}
use Rattle.listing_input.specs.Gather.{line_bytes, line_ends, line_next}
use Rattle.listing_input.proofs.Chains.{before_is}
use lib.ListN.{drop_of_length-le}

-- the bytes from the place on, or none
pub rest_is : (r : Option (Bor (List ℕ))) (d : Bor (List ℕ)) (piece : List ℕ) (from : ℕ) → PartBy (λ (x : Bor (List ℕ)). x.now) piece from (length piece) r → d.now ≡ []
    → (unwrap_or r d).now ≡ drop from piece
rest_is None d piece from h e = e ∙ sym (drop_of_length-le piece (omega (arith, h.0)))
rest_is (Some x) d piece from h e = h.0.2 ∙ take_all (length piece - from) (drop from piece) (omega (arith, length-drop from piece))

abbrev first_newline : List ℕ → ℕ → ℕ
first_newline piece from = before 10 (drop from piece)

-- the newline stands after n bytes of the rest
pub record Ends (piece : List ℕ) (from n : ℕ) (rest : List ℕ) : Type 0 where
  pub bytes : take n rest ≡ line_bytes piece from
  pub next : from + n + 1 ≡ line_next piece from
  pub ended : true ≡ line_ends piece from

-- there is none in the rest
pub record GoesOn (piece : List ℕ) (from : ℕ) (rest : List ℕ) : Type 0 where
  pub bytes : rest ≡ line_bytes piece from
  pub next : length piece ≡ line_next piece from
  pub ended : false ≡ line_ends piece from

-- what the search for it gave
module _ (piece : List ℕ) (from : ℕ) {rest : List ℕ} {r : Option ℕ} (is : rest ≡ drop from piece)
    (e : r ≡ cond (ltb (position_or_len (λ b. eqb b 10) rest) (length rest)) (Some (position_or_len (λ b. eqb b 10) rest)) None) where
  searched : r ≡ cond (ltb (first_newline piece from) (length (drop from piece))) (Some (first_newline piece from)) None
  searched = rw (before_is 10 (drop from piece), ← is) e

  pub found : (n : ℕ) → r ≡ Some n → Ends piece from n rest
  unfolding line_bytes line_ends line_next
  found n k = go (ltb (first_newline piece from) (length (drop from piece))) refl (sym searched ∙ k)
    where
      go : (b : Bool) → ltb (first_newline piece from) (length (drop from piece)) ≡ b → cond b (Some (first_newline piece from)) None ≡ Some n → Ends piece from n rest
      go true t q =
          let p : n ≡ first_newline piece from = cc in
          record { bytes = rw (p, is); next = rw (t, p); ended = sym t }
      go false t q = cc

  pub not_found : r ≡ None → GoesOn piece from rest
  unfolding line_bytes line_ends line_next
  not_found k = go (ltb (first_newline piece from) (length (drop from piece))) refl (sym searched ∙ k)
    where
      go : (b : Bool) → ltb (first_newline piece from) (length (drop from piece)) ≡ b → cond b (Some (first_newline piece from)) None ≡ None → GoesOn piece from rest
      go true t q = cc
      go false t q = record { bytes = is ∙ sym (take_all (first_newline piece from) (drop from piece) (ltb-false _ _ t)); next = rw t; ended = sym t }
