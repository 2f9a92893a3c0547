-- What only the contracts of private functions cite: the bytes that a turn takes of a piece, that one progress comes of another by some bytes,
-- and that a run reads those bytes and writes what comes of them.
use Rattle.std.specs.Prelude.{◌≡◌, ℕ, ◌-◌, ◌≤◌, Bool, true, false, List, length, take, drop, Option}
use Rattle.std.specs.Io.KnownBytes.{Appends, Consumes, IsAtEnd}
use Rattle.listing_input.specs.Gather.{line_next}
use Rattle.listing_bytes.specs.Pieces.{Progress, take_bytes}

-- of a piece, the bytes from a place on up to a newline, and that newline
abbrev pub line_on : List ℕ → ℕ → List ℕ
line_on piece from = take (line_next piece from - from) (drop from piece)

pub record Reaches (p q : Progress) : Type 0 where
  pub input : List ℕ
  pub is : q ≡ (take_bytes input p).progress

-- some bytes were read, one progress comes of the other by them, and the text that comes of them was written. Where no more is to be read,
-- none is left; else they are so many at least
pub record Lists (unread unread' written written' : Option (List ℕ)) (p q : Progress) (more : Bool) (least : ℕ) : Type 0 where
  pub input : List ℕ
  pub read : Consumes unread unread' input
  pub is : q ≡ (take_bytes input p).progress
  pub wrote : Appends written written' (take_bytes input p).text
  pub ended : more ≡ false → IsAtEnd unread'
  pub goes_on : more ≡ true → least ≤ length input
