-- The arms whose sort is the record's own. Assumes nothing.
use native.Mathlib.Omega.{arith}
use mathlib.Core.Path.{◌∙◌}
use Rattle.btor2_list.proofs.Carried.{own}
use Rattle.btor2_list.proofs.carries.Goals as goal

pub returns-in-1 : goal.returns-in-1
returns-in-1 c l ek es = c.sort_of.ensures ∙ rw (← es) (own l (λ a b d. grind arith) (λ a. grind arith))

pub returns-in-14 : goal.returns-in-14
returns-in-14 c l ek es = c.sort_of-in-14.ensures ∙ rw (← es) (own l (λ a b d. grind arith) (λ a. grind arith))

pub returns-in-16 : goal.returns-in-16
returns-in-16 c l ek es = c.sort_of-in-16.ensures ∙ rw (← es) (own l (λ a b d. grind arith) (λ a. grind arith))

pub returns-in-17 : goal.returns-in-17
returns-in-17 c l ek es = c.sort_of-in-17.ensures ∙ rw (← es) (own l (λ a b d. grind arith) (λ a. grind arith))

pub returns-in-18 : goal.returns-in-18
returns-in-18 c l ek es = c.sort_of-in-18.ensures ∙ rw (← es) (own l (λ a b d. grind arith) (λ a. grind arith))

pub returns-in-19 : goal.returns-in-19
returns-in-19 c l ek es = c.sort_of-in-19.ensures ∙ rw (← es) (own l (λ a b d. grind arith) (λ a. grind arith))

pub returns-in-21 : goal.returns-in-21
returns-in-21 c l ek es = c.sort_of-in-21.ensures ∙ rw (← es) (own l (λ a b d. grind arith) (λ a. grind arith))
