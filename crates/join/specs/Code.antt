-- The code's structs as the definitions' records; a place is its number.
use Rattle.std.specs.Prelude.{ℕ, ◌≡◌, eqb, Result, Ok, Err}
use Rattle.refusals.specs.Refusal.{refusal_number}
use Rattle.refusals.specs.declared.Refusal.{Refusal}
use Rattle.join.specs.declared.Bits.{Bits}
use Rattle.join.specs.declared.Kernel.{Kernel}
use Rattle.join.specs.declared.JoinHeld.{JoinHeld}
use Rattle.join.specs.declared.Joined.{Joined}
use Rattle.join.specs.declared.JoinLent as L
use Rattle.join.specs.declared.JoinInput as I
use Rattle.join.specs.ControlFlow as P
use Rattle.join.specs.Refusal as R
use Rattle.join.specs.Refusal.{join_lent, join_input}
use Rattle.join.specs.Join.{JoinAnswer, join_answer, join_refused}

abbrev pub bit_places : Bits → P.Bits ℕ
bit_places b = record { zero = b.zero.0; one = b.one.0; is_zero = λ p. eqb p b.zero.0 }

abbrev pub kernel_places : Kernel → P.Kernel ℕ
kernel_places k = record { mode = k.mode.0; none = k.none.0 }

-- the lists that the lent slices hold
abbrev pub lists_lent : L.JoinLent → R.JoinLent
lists_lent l = join_lent l.list.now l.names.now l.sequentials.now

-- and those of what a join is given
abbrev pub lists_given : I.JoinInput ℕ → R.JoinInput
lists_given g = join_input g.edges.now g.dispatches.now g.flags.now g.dynamics.now g.asked

-- what is lent stays the same slices
pub record SameJoinLent (l l' : L.JoinLent) : Type 0 where
  pub list : l'.list.ghost_name ≡ l.list.ghost_name
  pub names : l'.names.ghost_name ≡ l.names.ghost_name
  pub sequentials : l'.sequentials.ghost_name ≡ l.sequentials.ghost_name

-- what the code gives, with the lent lists as it leaves them: a refusal is its number alone, and flow and what is held stay
abbrev pub join_answered : JoinHeld → R.JoinInput → Result Joined Refusal → R.JoinLent → JoinAnswer
join_answered h g (Ok j) l = join_answer 0 j.flow.0 j.held l
join_answered h g (Err r) l = join_refused (refusal_number r) l h g
