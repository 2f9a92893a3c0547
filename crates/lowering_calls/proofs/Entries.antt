-- The calls over words where the roles of the state in the words are tested, and a call over a state. Assumes nothing.
use Prim.Native.Nat.{ℕ, ◌≤◌}
use mathlib.Core.Path.{◌≡◌, refl, sym, ap, ◌∙◌}
use mathlib.Core.Bool.{Bool, true, false, cond}
use mathlib.Core.List.{List}
use native.Mathlib.Omega.{arith}
use borrow.Author.Tests.{le-ltb, eqb-true, eqb-false}
use lib.Dec.{eqb, ltb}
use lib.ListN.{length}
use Rattle.btor2.specs.declared.NodeRef.{NodeRef}
use Rattle.riscv.specs.declared.Instruction.{Instruction}
use Rattle.state.specs.Roles.{role_count}
use Rattle.state.specs.declared.State.{State}
use Rattle.lowering.specs.Lowering.{Lent, Answer, answer, lowering_given, lowering}
use Rattle.state.specs.Words.{state_words, state_in, state_out}
use Rattle.lowering.specs.Words.{Given, given, given_by, lowering_words}
use Rattle.lowering.specs.All.{GivenAll, lowering_all_words}
use Rattle.refusals.specs.declared.Refusal.{Refusal}
use Rattle.refusals.specs.Refusal.{refusal_number}
use Rattle.lowering.proofs.Refused.{refused_kept}
use Rattle.refusals.proofs.Numbered.{numbered}
use Rattle.state.proofs.Words.{read_out, out_length}
use Rattle.lowering.proofs.Words.{read_back}
use Rattle.lowering_calls.specs.Known.{known_words, words_all}
use Rattle.lowering_calls.proofs.Same.{Fits, size_on, same_by_words}

module _ (l : Lent) (ws : List ℕ) (fits : Bool) (tested : fits ≡ Fits l (state_in ws)) where
  pub one : (i : Instruction) (address : ℕ) (flag : NodeRef) (g : Given) → g ≡ known_words fits l ws i address flag → g ≡ lowering_words l ws i address flag
  unfolding known_words lowering_words
  one i address flag g e = e ∙ ap (λ b. cond (ltb (length ws) state_words) (given 9 l ws) (given_by ws (lowering_given b l (state_in ws) i address flag))) tested

  pub many : state_words ≤ length ws → (calls : List ℕ) (g : GivenAll) → g ≡ words_all fits l ws calls → g ≡ lowering_all_words l ws calls
  unfolding lowering_all_words
  many enough calls g e = rw (le-ltb (length ws) state_words enough) (e ∙ ap (λ b. words_all b l ws calls) tested ∙ same_by_words l ws calls enough)

-- a state put into words, and read from them after the call
module _ (l : Lent) (s : State) (i : Instruction) (address : ℕ) (flag : NodeRef) (size : length s.roles ≡ role_count) where
  abbrev a : Answer
  a = lowering l s i address flag

  sized : length a.lowered.state.roles ≡ role_count
  sized = go (eqb a.lowered.refusal 0) refl
    where
      go : (b : Bool) → eqb a.lowered.refusal 0 ≡ b → length a.lowered.state.roles ≡ role_count
      go true q = size_on l s (record { instruction = i; address = address; flag = flag }) size (eqb-true a.lowered.refusal 0 q)
      go false q = ap (λ (x : State). length x.roles) (refused_kept _ l s i address flag (eqb-false a.lowered.refusal 0 q)) ∙ size

  by_words : lowering_words l (state_out s) i address flag ≡ given_by (state_out s) a
  unfolding lowering_words
  by_words = rw (le-ltb (length (state_out s)) state_words (rw (out_length s size) (omega arith)), read_out s size)

  pub over_state : (n : ℕ) (l' : Lent) (ws : List ℕ) (after : State) → given n l' ws ≡ lowering_words l (state_out s) i address flag → after ≡ state_in ws → answer (record { refusal = n; state = after }) l' ≡ a
  over_state n l' ws after e read =
      let whole : given n l' ws ≡ given_by (state_out s) a = e ∙ by_words in
      let state : after ≡ a.lowered.state = read ∙ ap (λ (g : Given). state_in g.state) whole ∙ read_back (state_out s) a.lowered.state sized in
      rw (state, ap (λ (g : Given). g.refusal) whole, ap (λ (g : Given). g.lent) whole)

  pub refused_over_state : (r : Refusal) (l' : Lent) (ws : List ℕ) → given (refusal_number r) l' ws ≡ lowering_words l (state_out s) i address flag → answer (record { refusal = refusal_number r; state = s }) l' ≡ a
  refused_over_state r l' ws e =
      let whole : given (refusal_number r) l' ws ≡ given_by (state_out s) a = e ∙ by_words in
      let refused : refusal_number r ≡ a.lowered.refusal = ap (λ (g : Given). g.refusal) whole in
      let kept : a.lowered.state ≡ s = refused_kept _ l s i address flag (λ z. numbered r (refused ∙ z)) in
      rw (refused, ap (λ (g : Given). g.lent) whole) (ap (λ (x : State). answer (record { refusal = a.lowered.refusal; state = x }) a.lent) (sym kept))
