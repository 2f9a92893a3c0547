-- A state's words: a role read and set, and what words that a state was put into hold. Assumes nothing.
use Prim.Native.Nat.{ℕ, zero, suc, ◌+◌, ◌≤◌, ◌<◌}
use native.Mathlib.Omega.{arith}
use mathlib.Core.Path.{◌≡◌, refl, sym, ap, ◌∙◌}
use mathlib.Core.List.{List, [], ◌∷◌, ◌++◌, map, append-nil}
use lib.ListN.{length, get_or, set, drop, length-append, length-map, length-drop}
use lib.Seq.{get_or-drop, drop-set-add, drop_at}
use Rattle.btor2.specs.declared.NodeRef.{NodeRef}
use Rattle.builder.specs.declared.Tally.{Tally}
use Rattle.state.specs.Roles.{ref, role, role_count}
use Rattle.state.specs.declared.Counts.{Counts}
use Rattle.state.specs.declared.State.{State}
use Rattle.state.specs.Words.{first_role, state_words, places_in, roles_in, state_in, place, state_out, with_state}

-- ---- places one after the other

places_at : (n : ℕ) (ws : List ℕ) (j : ℕ) → j < n → get_or (places_in n ws) j (ref 0) ≡ ref (get_or ws j 0)
unfolding places_in
places_at zero ws j h = absurd (omega arith)
places_at (suc n) ws zero h = refl
places_at (suc n) [] (suc j) h = places_at n [] j (omega arith)
places_at (suc n) (w ∷ ws) (suc j) h = places_at n ws j (omega arith)

places_size : (n : ℕ) (ws : List ℕ) → length (places_in n ws) ≡ n
unfolding places_in
places_size zero ws = refl
places_size (suc n) ws = ap suc (places_size n (drop 1 ws))

places_set : (n : ℕ) (ws : List ℕ) (j x : ℕ) → j < length ws → j < n → places_in n (set ws j x) ≡ set (places_in n ws) j (ref x)
unfolding places_in
places_set zero ws j x h l = absurd (omega arith)
places_set (suc n) [] j x h l = absurd (omega arith)
places_set (suc n) (w ∷ ws) zero x h l = refl
places_set (suc n) (w ∷ ws) (suc j) x h l = ap (λ r. ref w ∷ r) (places_set n ws j x (omega arith) (omega arith))

-- as words again
places_kept : (n : ℕ) (ws : List ℕ) → n ≤ length ws → map place (places_in n ws) ++ drop n ws ≡ ws
unfolding places_in
places_kept zero ws h = refl
places_kept (suc n) [] h = absurd (omega arith)
places_kept (suc n) (w ∷ ws) h = ap (λ r. w ∷ r) (places_kept n ws (omega arith))

pub places_back : (roles : List NodeRef) (ws : List ℕ) (n : ℕ) → length roles ≡ n → places_in n (map place roles ++ ws) ≡ roles
unfolding places_in
places_back [] ws zero h = refl
places_back [] ws (suc n) h = absurd (omega arith)
places_back (r ∷ roles) ws zero h = absurd (omega arith)
places_back (r ∷ roles) ws (suc n) h = ap (λ l. r ∷ l) (places_back roles ws n (omega arith))

-- ---- the roles

pub role_at : (ws : List ℕ) (j : ℕ) → j < role_count → role (roles_in ws) j ≡ ref (get_or ws (first_role + j) 0)
unfolding roles_in
role_at ws j h = places_at role_count (drop first_role ws) j h ∙ ap ref (get_or-drop first_role ws j 0)

pub size_in : (ws : List ℕ) → length (roles_in ws) ≡ role_count
unfolding roles_in
size_in ws = places_size role_count (drop first_role ws)

pub role_set : (ws : List ℕ) (j x : ℕ) → state_words ≤ length ws → j < role_count → roles_in (set ws (first_role + j) x) ≡ set (roles_in ws) j (ref x)
unfolding roles_in
role_set ws j x w h =
    ap (places_in role_count) (drop-set-add first_role ws j x) ∙ places_set role_count (drop first_role ws) j x (omega (arith, length-drop first_role ws)) h

-- words that hold the roles that they held are the same
pub roles_kept : (ws : List ℕ) → role_count ≤ length ws → map place (places_in role_count ws) ++ drop role_count ws ≡ ws
roles_kept ws h = places_kept role_count ws h

-- ---- the state

-- the words before the roles
abbrev pub six : Tally → Counts → List ℕ
six t c = t.lines ∷ t.nid ∷ c.names ∷ c.edges ∷ c.dispatches ∷ c.bads ∷ []

-- of words with six before the roles, a statement about those six and the rest
pub by_six : (Q : List ℕ → Type 0) (ws : List ℕ) → state_words ≤ length ws → ((a b c d e f : ℕ) (rest : List ℕ) → role_count ≤ length rest → Q (a ∷ b ∷ c ∷ d ∷ e ∷ f ∷ rest)) → Q ws
by_six Q (a ∷ b ∷ c ∷ d ∷ e ∷ f ∷ ws) h q = q a b c d e f ws (omega arith)
by_six Q (a ∷ b ∷ c ∷ d ∷ e ∷ []) h q = absurd (omega arith)
by_six Q (a ∷ b ∷ c ∷ d ∷ []) h q = absurd (omega arith)
by_six Q (a ∷ b ∷ c ∷ []) h q = absurd (omega arith)
by_six Q (a ∷ b ∷ []) h q = absurd (omega arith)
by_six Q (a ∷ []) h q = absurd (omega arith)
by_six Q [] h q = absurd (omega arith)

-- the words of a state alone
pub read_out : (s : State) → length s.roles ≡ role_count → state_in (state_out s) ≡ s
unfolding state_in roles_in state_out
read_out s h =
    ap (λ (roles : List NodeRef). record { tally = s.tally; counts = s.counts; roles = roles })
    (ap (places_in role_count) (sym (append-nil (map place s.roles))) ∙ places_back s.roles [] role_count h)

-- the roles of words that a state was put into
pub roles_in_lem : (ws : List ℕ) (s : State) → length s.roles ≡ role_count → roles_in (with_state ws s) ≡ s.roles
unfolding roles_in state_out with_state
roles_in_lem ws s h = places_back s.roles (drop state_words ws) role_count h

-- words that hold the state that they held are the same
pub state_kept : (ws : List ℕ) → state_words ≤ length ws → with_state ws (state_in ws) ≡ ws
unfolding roles_in state_in state_out with_state
state_kept ws h = by_six (λ ws. with_state ws (state_in ws) ≡ ws) ws h (λ a b c d e f rest l. ap (λ r. a ∷ b ∷ c ∷ d ∷ e ∷ f ∷ r) (roles_kept rest l))

pub out_length : (s : State) → length s.roles ≡ role_count → length (state_out s) ≡ state_words
unfolding state_out
out_length s h = omega (arith, length-map s.roles place)

pub put_again : (ws : List ℕ) (s s' : State) → length s.roles ≡ role_count → with_state (with_state ws s) s' ≡ with_state ws s'
unfolding with_state
put_again ws s s' h = ap (λ l. state_out s' ++ l) (drop_at (state_out s) (drop state_words ws) state_words (out_length s h))

pub put_length : (ws : List ℕ) (s : State) → length s.roles ≡ role_count → state_words ≤ length (with_state ws s)
unfolding with_state
put_length ws s h = omega (arith, length-append (state_out s) (drop state_words ws), out_length s h)
