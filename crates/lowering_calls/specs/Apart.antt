-- A call apart from the roles, for private functions: what it gives, by what is read of them.
use Rattle.std.specs.Prelude.{ℕ, Bool, cond, List, eqb, Result, Ok, Err}
use Rattle.btor2.specs.declared.NodeRef.{NodeRef}
use Rattle.builder.specs.declared.Tally.{Tally}
use Rattle.builder.specs.Append.{Store, run_for}
use Rattle.builder.specs.Prog.{Run}
use Rattle.riscv.specs.Class.{class}
use Rattle.edges.specs.Edges.{edges_after}
use Rattle.models.specs.Places as P
use Rattle.models.specs.Code.{flows_of, outcome_of}
use Rattle.riscv.specs.declared.Instruction.{Instruction}
use Rattle.riscv.specs.declared.Class.{Class}
use Rattle.riscv.specs.declared.Zeros.{Zeros}
use Rattle.riscv.specs.Kind.{kind_at}
use Rattle.riscv.specs.Zeros.{zeros_of}
use Rattle.state.specs.Roles.{with_flows, with_outcome}
use Rattle.state.specs.declared.Counts.{Counts}
use Rattle.lowering_refusals.specs.Refusal.{needs, refusal_given}
use Rattle.state.specs.declared.roles.Reads.{Reads}
use Rattle.lowering.specs.Lines.{program_from}
use Rattle.state.specs.Words.{state_of}
use Rattle.lowering.specs.Lowering.{Lent, lent, Answer, room_in, names_after, dispatches_after, bads_after, counts_after}
use Rattle.lowering_calls.specs.declared.apart.Apart.{Apart}
use Rattle.lowering_calls.specs.declared.apart.Before.{Before}
use Rattle.refusals.specs.declared.Refusal.{Refusal}
use Rattle.refusals.specs.Refusal.{refusal_number}

-- what the call gives, with the lent lists
pub record GivenApart : Type 0 where
  pub refusal : ℕ
  pub tally : Tally
  pub counts : Counts
  pub flows : P.Flows ℕ
  pub outcome : P.Outcome ℕ
  pub lent : Lent

-- by the class of the instruction's kind and which of its fields are zero
unfoldable pub accepted_with : Class → Zeros → Lent → Tally → Counts → Instruction → ℕ → Run Store (P.Modeled ℕ) → GivenApart
accepted_with k z l t c i address r = record {
  refusal = 0;
  tally = r.state.tally;
  counts = counts_after c (needs i address);
  flows = r.value.flows;
  outcome = r.value.outcome;
  lent = lent r.state.words
      (names_after l.names c.names k z address)
      (edges_after l.edges c.edges k address i.imm r.value.outcome)
      (dispatches_after l.dispatches c.dispatches k z i.rs1 address)
      (bads_after l.bads c.bads k z t.lines);
}

abbrev pub accepted_apart : Lent → Tally → Counts → Instruction → ℕ → Run Store (P.Modeled ℕ) → GivenApart
accepted_apart l t c i address r = accepted_with (class (kind_at i.kind)) (zeros_of i) l t c i address r

abbrev pub refused_apart : ℕ → Lent → Tally → Counts → Reads → GivenApart
refused_apart n l t c e = record { refusal = n; tally = t; counts = c; flows = flows_of e.flows; outcome = P.nothing; lent = l }

-- refused, the tally, the counts and the flows are those that were read
abbrev pub given_apart : Before → Result Apart Refusal → Lent → GivenApart
given_apart b (Ok p) l = record {
  refusal = 0;
  tally = p.tally;
  counts = p.counts;
  flows = flows_of p.flows;
  outcome = outcome_of p.outcome;
  lent = l;
}
given_apart b (Err r) l = refused_apart (refusal_number r) l b.tally b.counts b.reads

unfoldable pub call_apart : Bool → Lent → Tally → Counts → Reads → Instruction → ℕ → NodeRef → GivenApart
call_apart fits l t c e i address flag =
    let n = refusal_given fits l.list (room_in l) t c i address flag.0 in
    cond (eqb n 0) (accepted_apart l t c i address (run_for address l.list t (program_from e c.names i address))) (refused_apart n l t c e)

-- with the roles: those that an accepted call sets are set
abbrev pub roles_after : List NodeRef → ℕ → GivenApart → List NodeRef
roles_after roles rd p = with_outcome (with_flows roles p.flows) rd p.outcome

abbrev pub joined : List NodeRef → ℕ → GivenApart → Answer
joined roles rd p = record {
  lowered = record { refusal = p.refusal; state = state_of p.tally p.counts (cond (eqb p.refusal 0) (roles_after roles rd p) roles) };
  lent = p.lent;
}
