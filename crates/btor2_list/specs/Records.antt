-- Records of numbers in lent words, at a stride.
use Rattle.std.specs.Prelude.{ℕ, zero, suc, ◌*◌, ◌/◌, Bool, cond, List, [], ◌∷◌, ltb, length, drop}
use Rattle.std.proofs.lemmas.List.Edits.{sets}

-- the words once a record is put at place p, where they reach over it
abbrev pub put_record : ℕ → List ℕ → ℕ → List ℕ → List ℕ
put_record stride ws p record-words = cond (ltb p (length ws / stride)) (sets ws (p * stride) record-words) ws

-- the first n records of words, each read from where it starts
unfoldable pub records_in : {A : Type 0} → ℕ → (List ℕ → A) → ℕ → List ℕ → List A
records_in stride read zero ws = []
records_in stride read (suc n) ws = read ws ∷ records_in stride read n (drop stride ws)

-- what the first record that passes a test gives, or `none`: with values and with flags alike "the first [..] counts" (document 02, R-1 and R-2)
unfoldable pub first_given : {A : Type 0} → ℕ → (A → Bool) → (A → ℕ) → List A → ℕ
first_given none test give [] = none
first_given none test give (x ∷ xs) = cond (test x) (give x) (first_given none test give xs)
