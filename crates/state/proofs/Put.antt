-- What a call puts into a state's words. Assumes nothing.
use Prim.Native.Nat.{ℕ, ◌+◌, ◌≤◌, ◌<◌}
use native.Mathlib.Omega.{arith}
use mathlib.Core.Path.{◌≡◌, refl, sym, ap, ◌∙◌}
use mathlib.Core.List.{List, ◌∷◌, ◌++◌, map}
use lib.ListN.{length, set, take, drop, length-set}
use lib.Seq.{drop-set-lt, take-set-le, drop_at, sets}
use Rattle.btor2.specs.declared.NodeRef.{NodeRef}
use Rattle.builder.specs.declared.Tally.{Tally}
use Rattle.state.specs.Roles.{ref, role_count}
use Rattle.state.specs.declared.Counts.{Counts}
use Rattle.state.specs.declared.State.{State}
use Rattle.state.specs.Words.{first_role, state_words, roles_in, state_of, state_out, with_state, place}
use Rattle.state.specs.Put.{with_roles}
use Rattle.state.proofs.Words.{role_set, roles_kept, roles_in_lem, six, by_six, out_length}

-- the tally and the counts
pub counts_put : (ws : List ℕ) (t : Tally) (c : Counts) → state_words ≤ length ws → sets ws 0 (six t c) ≡ with_state ws (state_of t c (roles_in ws))
unfolding roles_in state_out with_state
counts_put ws t c h =
    by_six (λ ws. sets ws 0 (six t c) ≡ with_state ws (state_of t c (roles_in ws))) ws h (λ _ _ _ _ _ _ rest l. ap (λ r. six t c ++ r) (sym (roles_kept rest l)))

-- ---- words that differ from ws in their roles alone

pub record Kept (ws e : List ℕ) (roles : List NodeRef) : Type 0 where
  front : take first_role e ≡ take first_role ws
  back : drop state_words e ≡ drop state_words ws
  size : length e ≡ length ws
  enough : state_words ≤ length ws
  is : roles_in e ≡ roles

pub unchanged : (ws : List ℕ) → state_words ≤ length ws → Kept ws ws (roles_in ws)
unchanged ws h = record { front = refl; back = refl; size = refl; enough = h; is = refl }

pub put : {ws e : List ℕ} {roles : List NodeRef} → Kept ws e roles → (j x : ℕ) → j < role_count → Kept ws (set e (first_role + j) x) (set roles j (ref x))
put {ws} {e} k j x h = record {
  front = take-set-le first_role e (first_role + j) x (omega arith) ∙ k.front;
  back = drop-set-lt state_words e (first_role + j) x (omega arith) ∙ k.back;
  size = length-set e (first_role + j) x ∙ k.size;
  enough = k.enough;
  is = role_set e j x (rw k.size k.enough) h ∙ ap (λ l. set l j (ref x)) k.is;
}

roles_back : (ws : List ℕ) → state_words ≤ length ws → with_roles ws (roles_in ws) ≡ ws
unfolding roles_in with_roles
roles_back ws h = by_six (λ ws. with_roles ws (roles_in ws) ≡ ws) ws h (λ a b c d e f rest l. ap (λ r. a ∷ b ∷ c ∷ d ∷ e ∷ f ∷ r) (roles_kept rest l))

pub kept_is : {ws e : List ℕ} {roles : List NodeRef} → Kept ws e roles → e ≡ with_roles ws roles
unfolding with_roles
kept_is {ws} {e} {roles} k = sym (roles_back e (rw k.size k.enough)) ∙ rw (k.front, k.back, k.is)

-- other roles, put into words that a state was put into
pub roles_put : (ws : List ℕ) (s : State) (f : List NodeRef → List NodeRef) → length s.roles ≡ role_count
    → with_roles (with_state ws s) (f (roles_in (with_state ws s))) ≡ with_state ws (state_of s.tally s.counts (f s.roles))
unfolding with_roles state_out with_state
roles_put ws s f h =
    ap (λ r. six s.tally s.counts ++ map place (f r) ++ drop state_words (state_out s ++ drop state_words ws)) (roles_in_lem ws s h)
    ∙ ap (λ r. six s.tally s.counts ++ map place (f s.roles) ++ r) (drop_at (state_out s) (drop state_words ws) state_words (out_length s h))
