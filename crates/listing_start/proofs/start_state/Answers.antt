-- The code's roles are the definition's, computed. Assumes nothing.
use Rattle.std.proofs.Common.{◌≡◌, ℕ, ◌<◌, List, length, get_or, map, sym, refl, ◌∙◌, rules}
use Rattle.std.proofs.lemmas.List.{ext_get_or, get_or-map}
use Rattle.btor2.specs.declared.NodeRef.{NodeRef}
use Rattle.listing_start.specs.declared.TheConstants.{ROLES}
use Rattle.listing_start.specs.Start.{from_on, start_roles, start_state}
use Rattle.listing_start.proofs.start_state.Goals as goal

abbrev at : ℕ → NodeRef
at n = record { 0 = n }

table : map at ROLES ≡ start_roles
unfolding from_on start_roles
table = refl

roles : (rs : List NodeRef) → length rs ≡ length ROLES → ((i : ℕ) → i < length ROLES → get_or rs i (at 0) ≡ at (get_or ROLES i 0)) → rs ≡ start_roles
roles rs e h = ext_get_or (at 0) rs (map at ROLES) e (λ i l. let k : i < length ROLES = rw e at l in h i k ∙ sym (get_or-map at ROLES i 0 (at 0) k)) ∙ table

pub returns : goal.returns
unfolding start_state
returns c = rw (roles c.map.result c.map.ensures.items.long (λ i h. search (rules, c.map.ensures.items.at i 0 (at 0) h)))
