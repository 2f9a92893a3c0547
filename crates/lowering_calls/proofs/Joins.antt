-- A call apart from the roles is the call with them. Assumes nothing.
use Prim.Native.Nat.{ℕ, ◌≤◌}
use mathlib.Core.Path.{◌≡◌, refl, sym, ap, ◌∙◌}
use mathlib.Core.Bool.{Bool, true, false, cond}
use mathlib.Core.List.{List}
use borrow.Author.Tests.{le-ltb}
use lib.Dec.{eqb}
use lib.ListN.{length}
use Rattle.btor2.specs.declared.NodeRef.{NodeRef}
use Rattle.builder.specs.declared.Tally.{Tally}
use Rattle.builder.specs.Append.{run_for}
use Rattle.riscv.specs.declared.Instruction.{Instruction}
use Rattle.state.specs.declared.Counts.{Counts}
use Rattle.state.specs.declared.State.{State}
use Rattle.lowering_refusals.specs.Refusal.{refusal_given}
use Rattle.state.specs.declared.roles.Reads.{Reads}
use Rattle.lowering.specs.Lines.{program_from}
use Rattle.state.specs.Roles.{reads_in}
use Rattle.lowering.specs.Lowering.{Lent, Answer, room_in, program_of, settled, refused, lowering_given}
use Rattle.lowering.specs.Words.{given, given_by}
use Rattle.lowering.proofs.Refused.{refused_kept}
use Rattle.state.proofs.Words.{state_kept}
use Rattle.state.specs.Words.{state_words, roles_in, state_of, state_in, with_state, roles_held, stored}
use Rattle.lowering_calls.specs.Apart.{GivenApart, accepted_with, accepted_apart, refused_apart, call_apart, joined}
use Rattle.lowering_calls.specs.Known.{known_words}

module _ (fits : Bool) (l : Lent) (roles : List NodeRef) (t : Tally) (c : Counts) (i : Instruction) (address : ℕ) (flag : NodeRef) where
  pub joins : joined roles i.rd (call_apart fits l t c (reads_in roles flag i) i address flag) ≡ lowering_given fits l (state_of t c roles) i address flag
  unfolding call_apart lowering_given accepted_with settled program_of
  joins = go (eqb n 0) refl
    where
      n : ℕ
      n = refusal_given fits l.list (room_in l) t c i address flag.0

      p : GivenApart
      p = accepted_apart l t c i address (run_for address l.list t (program_from (reads_in roles flag i) c.names i address))

      go : (b : Bool) → eqb n 0 ≡ b
          → joined roles i.rd (cond b p (refused_apart n l t c (reads_in roles flag i)))
          ≡ cond b (settled l (state_of t c roles) i address (run_for address l.list t (program_of (state_of t c roles) i address flag))) (refused n l (state_of t c roles))
      go true q = refl
      go false q = rw q

parted : (ws : List ℕ) → state_of (state_in ws).tally (state_in ws).counts (roles_in ws) ≡ state_in ws
unfolding state_in
parted ws = refl

-- over words: what was read of them, and what the call gave
module _ (fits : Bool) (l : Lent) (ws : List ℕ) (i : Instruction) (address : ℕ) (flag : NodeRef) {t : Tally} {c : Counts} {e : Reads} {p : GivenApart} (enough : state_words ≤ length ws) (t-is : t ≡ (state_in ws).tally) (c-is : c ≡ (state_in ws).counts)
    (e-is : e ≡ reads_in (roles_held ws) flag i) (gave : p ≡ call_apart fits l t c e i address flag) where
  held : roles_held ws ≡ roles_in ws
  held = rw (le-ltb (length ws) state_words enough)

  whole : joined (roles_in ws) i.rd p ≡ lowering_given fits l (state_in ws) i address flag
  whole =
      ap (joined (roles_in ws) i.rd)
      (gave ∙ ap (λ (x : Tally). call_apart fits l x c e i address flag) t-is ∙ ap (λ (x : Counts). call_apart fits l (state_in ws).tally x e i address flag) c-is
      ∙ ap (λ (x : Reads). call_apart fits l (state_in ws).tally (state_in ws).counts x i address flag) (e-is ∙ ap (λ (roles : List NodeRef). reads_in roles flag i) held))
      ∙ joins fits l (roles_in ws) (state_in ws).tally (state_in ws).counts i address flag
      ∙ ap (λ (s : State). lowering_given fits l s i address flag) (parted ws)

  pub not_written : (p.refusal ≡ 0 → ⊥) → given p.refusal p.lent ws ≡ known_words fits l ws i address flag
  unfolding known_words
  not_written n =
      let kept : (joined (roles_in ws) i.rd p).lowered.state ≡ state_in ws = ap (λ (a : Answer). a.lowered.state) whole ∙ refused_kept fits l (state_in ws) i address flag (λ z. n (ap (λ (a : Answer). a.lowered.refusal) whole ∙ z)) in
      rw (le-ltb (length ws) state_words enough) (ap (given p.refusal p.lent) (sym (ap (with_state ws) kept ∙ state_kept ws enough)) ∙ ap (given_by ws) whole)

  pub written : p.refusal ≡ 0 → given 0 p.lent (stored ws p.tally p.counts p.flows i.rd p.outcome) ≡ known_words fits l ws i address flag
  unfolding known_words
  written z =
      let all : given 0 p.lent (stored ws p.tally p.counts p.flows i.rd p.outcome) ≡ given_by ws (joined (roles_in ws) i.rd p) = rw (le-ltb (length ws) state_words enough, z) in
      rw (le-ltb (length ws) state_words enough) (rw (le-ltb (length ws) state_words enough) at all ∙ ap (given_by ws) whole)
