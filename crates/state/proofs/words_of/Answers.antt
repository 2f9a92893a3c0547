-- The six words before the roles, then as many roles as were passed. Assumes nothing.
use Prim.Native.Nat.{ℕ, ◌+◌, ◌<◌}
use mathlib.Core.Path.{◌≡◌, refl, sym, ap, ◌∙◌}
use mathlib.Core.List.{List, map}
use native.Mathlib.Omega.{arith}
use borrow.Author.Rules.{rules}
use lib.ListN.{length, length-set, length-append, length-map, get_or, set, take, replicate, get_or-map}
use lib.Seq.{get_or-append-add, length-take-le, sets}
use Rattle.btor2.specs.declared.NodeRef.{NodeRef}
use Rattle.state.specs.Roles.{ref, role, role_count}
use Rattle.state.specs.Words.{first_role, state_words, place, state_out}
use Rattle.state.proofs.Words.{six}
use Rattle.state.proofs.Stored.{front, front_more, front_all}
use Rattle.edges.proofs.Copied.{copied}
use Rattle.state.proofs.words_of.Invariants.{wanted, begun}
use Rattle.state.proofs.words_of.Goals as goal

module _ (words₀ : List ℕ) (places : List NodeRef) (size : length words₀ ≡ state_words) (roles : length places ≡ role_count) where
  front_length : length (take first_role words₀) ≡ first_role
  front_length = length-take-le first_role words₀ (omega arith)

  wanted_length : length (wanted words₀ places) ≡ state_words
  wanted_length = omega (arith, length-append (take first_role words₀) (map place places), length-map places place, front_length)

  wanted_at : (k : ℕ) → get_or (wanted words₀ places) (first_role + k) 0 ≡ place (role places k)
  wanted_at k =
      ap (λ n. get_or (wanted words₀ places) (n + k) 0) (sym front_length) ∙ get_or-append-add (take first_role words₀) (map place places) k 0
      ∙ get_or-map place places k (ref 0)

  more : (k : ℕ) → k < role_count → set (front (wanted words₀ places) words₀ (first_role + k)) (first_role + k) (place (role places k)) ≡ front (wanted words₀ places) words₀ (first_role + (k + 1))
  more k h =
      ap (λ x. set (front (wanted words₀ places) words₀ (first_role + k)) (first_role + k) x) (sym (wanted_at k))
      ∙ front_more (wanted words₀ places) words₀ (first_role + k) 0 (omega (arith, wanted_length)) (omega arith)
      ∙ ap (front (wanted words₀ places) words₀) (let e : first_role + k + 1 ≡ first_role + (k + 1) = omega arith in e)

pub loop-k-init : goal.loop-k-init
loop-k-init c =
    let a = c.args in
    let zeros : List ℕ = replicate state_words 0 in
    let copy : c.copy_from_slice.new.self ≡ six a.t a.c = c.copy_from_slice.ensures.after ∙ c.count_words.ensures in
    let first = copied zeros c.copy_from_slice.new.self 0 6 (ap length copy) (omega arith) ∙ ap (λ (r : List ℕ). sets zeros 0 r) copy in
    (search rules, ap length first, first)

pub loop-k-preserved : goal.loop-k-preserved
loop-k-preserved c =
    let l = c.loop-k in
    let a = c.args in
    let words₀ = begun a.t a.c in (
      l.invariant.0,
      length-set l.words (first_role + l.k) _ ∙ l.invariant.1,
      ap (λ (x : List ℕ). set x (first_role + l.k) (place (role a.places l.k))) l.invariant.2 ∙ more words₀ a.places refl l.invariant.0 l.k c.loop-k-test.true,
    )

pub returns-clause-words : goal.returns-clause-words
unfolding state_out
returns-clause-words c =
    let l = c.loop-k in
    let a = c.args in
    let words₀ = begun a.t a.c in
    let all : first_role + l.k ≡ state_words = omega arith in
    l.invariant.2 ∙ ap (front (wanted words₀ a.places) words₀) all ∙ front_all (wanted words₀ a.places) words₀ state_words (wanted_length words₀ a.places refl l.invariant.0) refl
