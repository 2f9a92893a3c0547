-- A state that was put into words is read from them. Assumes nothing.
use mathlib.Core.Path.{ap}
use mathlib.Core.List.{List}
use lib.ListN.{drop}
use Rattle.btor2.specs.declared.NodeRef.{NodeRef}
use Rattle.state.specs.Roles.{role_count}
use Rattle.state.specs.Words.{state_words, roles_in, state_in, state_out, with_state}
use Rattle.state.proofs.Words.{places_back}
use Rattle.lowering.specs.Words.{ReadBack}

pub read_back : ReadBack
unfolding state_in roles_in with_state state_out
read_back ws s h = ap (λ (roles : List NodeRef). record { tally = s.tally; counts = s.counts; roles = roles }) (places_back s.roles (drop state_words ws) role_count h)
