-- A template read from its first line to its last: what its lines mean after any list is what they mean by themselves, from the meanings
-- of the roles. Assumes nothing.
use Prim.Native.Nat.{ℕ, ◌+◌, ◌<◌}
use native.Mathlib.Nat.{zero-add}
use mathlib.Core.Path.{◌≡◌, refl, sym, ◌∙◌, ap, ap₂, fun_ext}
use mathlib.Core.List.{List, [], ◌∷◌, ◌++◌, map, append_assoc, append-nil}
use lib.ListN.{length, get_or, length-append, get_or-append}
use lib.Seq.{get_or-append-add}
use Rattle.btor2.specs.Op.{Op, map_op}
use Rattle.btor2.specs.Walk.{walk}
use Rattle.btor2.proofs.Op.{map_op-map_op}
use Rattle.btor2.proofs.Walk.{walk-append, length-walk}
use Rattle.builder.specs.Lines.{place_after}
use Rattle.lowering_laws.proofs.Template.{Role, Ref, role, loc, resolve}

-- a template's lines as they stand after n others
unfoldable pub placed : (Role → ℕ) → ℕ → List (Op Ref) → List (Op ℕ)
placed ρ n os = map (map_op (resolve ρ (place_after n))) os

module _ (M : Type 0) (none : M) (mean : ℕ → Op M → M) where
  -- the meaning of an operand: `of_role` gives those of the roles, `own` are those of the template's lines so far
  unfoldable pub look : (Role → M) → List M → Ref → M
  look of_role own (role r) = of_role r
  look of_role own (loc k) = get_or own k none

  -- the meanings of a template's lines after n others
  unfoldable pub read : ℕ → (Role → M) → List M → List (Op Ref) → List M
  read n of_role own [] = own
  read n of_role own (o ∷ os) = read n of_role (own ++ (mean (n + length own) (map_op (look of_role own) o) ∷ [])) os

  look_placed : (before own : List M) (ρ : Role → ℕ) → ((r : Role) → ρ r < length before) → (x : Ref)
      → get_or (before ++ own) (resolve ρ (place_after (length before)) x) none ≡ look (λ r. get_or before (ρ r) none) own x
  unfolding look resolve
  look_placed before own ρ ok (role r) = get_or-append before own none (ρ r) (ok r)
  look_placed before own ρ ok (loc k) = get_or-append-add before own k none

  walk_placed : (before : List M) (ρ : Role → ℕ) → ((r : Role) → ρ r < length before) → (own : List M) (os : List (Op Ref))
      → walk M none mean (before ++ own) (placed ρ (length before) os) ≡ before ++ read (length before) (λ r. get_or before (ρ r) none) own os
  unfolding walk read placed
  walk_placed before ρ ok own [] = refl
  walk_placed before ρ ok own (o ∷ os) =
      ap (λ l. walk M none mean l (placed ρ (length before) os)) (ap (λ x. (before ++ own) ++ (x ∷ [])) same ∙ append_assoc before own _)
      ∙ walk_placed before ρ ok (own ++ (mean (length before + length own) (map_op (look (λ r. get_or before (ρ r) none) own) o) ∷ [])) os
    where
      same : mean (length (before ++ own)) (map_op (λ p. get_or (before ++ own) p none) (map_op (resolve ρ (place_after (length before))) o))
          ≡ mean (length before + length own) (map_op (look (λ r. get_or before (ρ r) none) own) o)
      same = ap₂ mean (length-append before own) (map_op-map_op _ _ o ∙ ap (λ f. map_op f o) (fun_ext (look_placed before own ρ ok)))

  -- after a list xs whose lines the roles are
  module _ (xs : List (Op ℕ)) (ρ : Role → ℕ) (ok : (r : Role) → ρ r < length xs) where
    long : length (walk M none mean [] xs) ≡ length xs
    long = length-walk M none mean [] xs ∙ zero-add _

    abbrev of_role : Role → M
    of_role r = get_or (walk M none mean [] xs) (ρ r) none

    pub whole : (os : List (Op Ref)) → walk M none mean [] (xs ++ placed ρ (length xs) os) ≡ walk M none mean [] xs ++ read (length xs) of_role [] os
    whole os =
        walk-append M none mean [] xs _
        ∙ ap (λ l. walk M none mean l (placed ρ (length xs) os)) (sym (append-nil (walk M none mean [] xs)))
        ∙ rw long at (walk_placed (walk M none mean [] xs) ρ (λ r. rw long (ok r)) [] os)

    pub seen : (os : List (Op Ref)) (x : Ref)
        → get_or (walk M none mean [] (xs ++ placed ρ (length xs) os)) (resolve ρ (place_after (length xs)) x) none ≡ look of_role (read (length xs) of_role [] os) x
    seen os x =
        ap (λ l. get_or l (resolve ρ (place_after (length xs)) x) none) (whole os)
        ∙ rw long at (look_placed (walk M none mean [] xs) (read (length xs) of_role [] os) ρ (λ r. rw long (ok r)) x)
