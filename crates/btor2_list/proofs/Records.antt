-- The records that are left: one and the rest, or none. A search through them: what is left gives what all do. Assumes nothing.
use Prim.Native.Nat.{ℕ, suc, ◌+◌, ◌-◌, ◌*◌, ◌≤◌, ◌<◌}
use mathlib.Core.Path.{◌≡◌, sym, ◌∙◌, ap}
use mathlib.Core.Bool.{Bool, true, false, cond}
use mathlib.Core.List.{List, [], ◌∷◌}
use native.Mathlib.Numerals.{add-one}
use native.Mathlib.Nat.{suc-mul}
use native.Mathlib.Omega.{arith}
use lib.ListN.{get_or, drop}
use lib.Seq.{drop-drop, get_or-drop}
use Rattle.btor2_list.specs.Records.{records_in, first_given}

module _ {A : Type 0} (stride : ℕ) (read : List ℕ → A) (n k : ℕ) (ws : List ℕ) where
  pub records_next : k < n
      → records_in stride read (n - k) (drop (k * stride) ws) ≡ read (drop (k * stride) ws) ∷ records_in stride read (n - (k + 1)) (drop ((k + 1) * stride) ws)
  unfolding records_in
  records_next h =
      let more : n - k ≡ suc (n - (k + 1)) = omega arith in
      let on : k * stride + stride ≡ (k + 1) * stride = sym (ap (λ (m : ℕ). m * stride) (add-one k) ∙ suc-mul k stride) in
      rw (more, drop-drop stride (k * stride) ws, on)

  pub records_none : n ≤ k → records_in stride read (n - k) ws ≡ []
  unfolding records_in
  records_none h = let none : n - k ≡ 0 = omega arith in rw none

module _ {A : Type 0} (none : ℕ) (stride : ℕ) (read : List ℕ → A) (test : A → Bool) (give : A → ℕ) (n k : ℕ) (ws : List ℕ) {all : ℕ}
    (left : first_given none test give (records_in stride read (n - k) (drop (k * stride) ws)) ≡ all) where
  abbrev here : A
  here = read (drop (k * stride) ws)

  abbrev rest : ℕ
  rest = first_given none test give (records_in stride read (n - (k + 1)) (drop ((k + 1) * stride) ws))

  next : k < n → cond (test here) (give here) rest ≡ all
  unfolding first_given
  next h = sym (ap (λ (xs : List A). first_given none test give xs) (records_next stride read n k ws h)) ∙ left

  -- the next one passes, or does not and leaves the rest, or there is none
  pub found : k < n → test here ≡ true → give here ≡ all
  found h e = rw e at (next h)

  pub passed : k < n → test here ≡ false → rest ≡ all
  passed h e = rw e at (next h)

  pub ended : n ≤ k → none ≡ all
  unfolding first_given
  ended h = sym (ap (λ (xs : List A). first_given none test give xs) (records_none stride read n k (drop (k * stride) ws) h)) ∙ left

-- the first word of the record that starts at word j
pub first_word : (j : ℕ) (ws : List ℕ) → get_or (drop j ws) 0 0 ≡ get_or ws j 0
first_word j ws = let here : j + 0 ≡ j = omega arith in get_or-drop j ws 0 0 ∙ ap (λ (k : ℕ). get_or ws k 0) here
