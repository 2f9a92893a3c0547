-- One step of a scan. Assumes nothing.
use Rattle.std.proofs.Common.{◌≡◌, ℕ, ◌+◌, ◌-◌, ◌*◌, ◌%◌, ◌^◌, ◌<◌, ◌≤◌, true, false, List, ◌∷◌, length, get_or, drop, add-one, drop_of_length-le, drop-cons, ap, ◌∙◌}
use Rattle.cases.specs.Scan.{read, is_digit, scan, number_from}

module _ (s : List ℕ) (value i : ℕ) where
  rest : i < length s → drop i s ≡ get_or s i 0 ∷ drop (i + 1) s
  rest h = rw (add-one, drop-cons s i 0)

  -- a digit goes on, any other byte ends the number, and so does the end
  pub on_digit : i < length s → is_digit (get_or s i 0) ≡ true → scan value i (drop i s) ≡ scan ((value * 10 + (get_or s i 0 - 48)) % 2 ^ 64) (i + 1) (drop (i + 1) s)
  unfolding scan
  on_digit h e = rw (rest h, e)

  pub at_other : i < length s → is_digit (get_or s i 0) ≡ false → scan value i (drop i s) ≡ read value (i + 1)
  unfolding scan
  at_other h e = rw (rest h, e)

  pub at_end : length s ≤ i → scan value i (drop i s) ≡ read value i
  unfolding scan
  at_end h = rw (drop_of_length-le s h)

-- what is read of a text that is the same
pub in_text : {s t : List ℕ} {value next : ℕ} (at : ℕ) → t ≡ s → read value next ≡ number_from t at → read value next ≡ number_from s at
in_text at e h = h ∙ ap (λ (u : List ℕ). number_from u at) e
