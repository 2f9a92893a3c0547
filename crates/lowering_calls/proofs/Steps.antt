-- One call of many, and the words of what is left. Assumes nothing.
use Prim.Native.Nat.{ℕ, ◌+◌, ◌-◌, ◌*◌, ◌/◌}
use mathlib.Core.Path.{◌≡◌, subst}
use mathlib.Core.Bool.{Bool, true, false}
use mathlib.Core.List.{List, ◌∷◌}
use native.Mathlib.Omega.{arith}
use borrow.Author.Tests.{eq-eqb, ne_eqb}
use lib.Dec.{eqb}
use lib.ListN.{length, drop}
use Rattle.btor2_list.proofs.Records.{records_none}
use Rattle.lowering.specs.Lowering.{Lent}
use Rattle.lowering.specs.Words.{Given}
use Rattle.lowering.specs.declared.LowerCall.{LowerCall}
use Rattle.lowering.specs.All.{call_words, call_in, calls_in, GivenAll, given_all}
use Rattle.lowering_calls.specs.Known.{known_words, words_on, words_all}

-- at the start
pub from_none : (fits : Bool) (l : Lent) (ws calls : List ℕ) → words_on fits 0 l ws (calls_in (length calls / 7 - 0) (drop (0 * 7) calls)) ≡ words_all fits l ws calls
unfolding words_all
from_none fits l ws calls = let all : length calls / 7 - 0 ≡ length calls / 7 = omega arith in rw all

-- none is left
pub ends : (fits : Bool) (n k : ℕ) (l : Lent) (ws calls : List ℕ) → k ≡ n → given_all n 0 l ws ≡ words_on fits k l ws (calls_in (n - k) calls)
unfolding words_on
ends fits n k l ws calls e = rw (e, records_none call_words call_in n n calls (omega arith))

module _ (fits : Bool) (l : Lent) (ws : List ℕ) (c : LowerCall) (g : Given) (is : g ≡ known_words fits l ws c.instruction c.address c.flag) (done : ℕ) (cs : List LowerCall) where
  -- what is made of an answer
  abbrev then : Given → GivenAll
  then x = elim (eqb x.refusal 0) [ true ↦ words_on fits (done + 1) x.lent x.state cs | false ↦ given_all done x.refusal x.lent x.state ]

  pub stops : (g.refusal ≡ 0 → ⊥) → given_all done g.refusal g.lent g.state ≡ words_on fits done l ws (c ∷ cs)
  unfolding words_on
  stops h = subst (λ (x : Given). given_all done g.refusal g.lent g.state ≡ then x) is (rw (then, ne_eqb g.refusal 0 h))

  pub goes_on : g.refusal ≡ 0 → words_on fits (done + 1) g.lent g.state cs ≡ words_on fits done l ws (c ∷ cs)
  unfolding words_on
  goes_on h = subst (λ (x : Given). words_on fits (done + 1) g.lent g.state cs ≡ then x) is (rw (then, eq-eqb g.refusal 0 h))
