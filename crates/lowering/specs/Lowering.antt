-- One call: refused, all is as it was; accepted, the lines of the instruction's program after the others, the flows that it sets, its edges,
-- dispatch or bad.
use Rattle.std.specs.Prelude.{ℕ, ◌≡◌, ◌+◌, Bool, cond, List, [], ◌∷◌, eqb, length, Result, Ok, Err}
use Rattle.std.proofs.lemmas.List.Edits.{sets}
use Rattle.btor2.specs.declared.NodeRef.{NodeRef}
use Rattle.builder.specs.Prog.{Prog, Run}
use Rattle.builder.specs.Append.{Store, run_for}
use Rattle.riscv.specs.declared.Class.{Class}
use Rattle.riscv.specs.Class.{class, has_bad, has_dispatch}
use Rattle.btor2_list.specs.Records.{put_record}
use Rattle.edges.specs.Edges.{dispatch_stride, edges_after}
use Rattle.models.specs.Places as P
use Rattle.riscv.specs.declared.Instruction.{Instruction}
use Rattle.riscv.specs.declared.Zeros.{Zeros}
use Rattle.riscv.specs.Zeros.{zeros_of}
use Rattle.riscv.specs.Kind.{kind_at}
use Rattle.state.specs.Roles.{reads_in, with_flows, with_outcome}
use Rattle.state.specs.RolesFit.{roles_fit}
use Rattle.text.specs.BadName.{bad_name}
use Rattle.lowering.specs.Lines.{program_from}
use Rattle.state.specs.declared.Counts.{Counts}
use Rattle.state.specs.declared.room.Room.{Room}
use Rattle.state.specs.declared.State.{State}
use Rattle.lowering_refusals.specs.Refusal.{needs, refusal_given}
use Rattle.state.specs.Room.{room_of}
use Rattle.refusals.specs.declared.Refusal.{Refusal}
use Rattle.refusals.specs.Refusal.{refusal_number}
use Rattle.lowering.specs.declared.Lent as L

-- what the host lends
pub record Lent : Type 0 where
  pub list : List ℕ
  pub names : List ℕ
  pub edges : List ℕ
  pub dispatches : List ℕ
  pub bads : List ℕ

abbrev pub lent : List ℕ → List ℕ → List ℕ → List ℕ → List ℕ → Lent
lent list names edges dispatches bads = record { list = list; names = names; edges = edges; dispatches = dispatches; bads = bads }

abbrev pub lent_by : L.Lent ℕ → Lent
lent_by l = lent l.list.now l.names.now l.edges.now l.dispatches.now l.bads.now

-- the same lists are lent, whatever they hold
pub record SameLent {Edge : Type 0} (l l' : L.Lent Edge) : Type 0 where
  pub list : l'.list.ghost_name ≡ l.list.ghost_name
  pub names : l'.names.ghost_name ≡ l.names.ghost_name
  pub edges : l'.edges.ghost_name ≡ l.edges.ghost_name
  pub dispatches : l'.dispatches.ghost_name ≡ l.dispatches.ghost_name
  pub bads : l'.bads.ghost_name ≡ l.bads.ghost_name

-- the refusal of a call, 0 where there is none, and the state after it
pub record Lowered : Type 0 where
  pub refusal : ℕ
  pub state : State

-- what a call says, over a state; refused, the state is as it was
abbrev pub lowered_by : State → Result State Refusal → Lowered
lowered_by st (Ok after) = record { refusal = 0; state = after }
lowered_by st (Err r) = record { refusal = refusal_number r; state = st }

-- what a call gives: the refusal, the state, and the lent lists as it leaves them
pub record Answer : Type 0 where
  pub lowered : Lowered
  pub lent : Lent

abbrev pub answer : Lowered → Lent → Answer
answer r l = record { lowered = r; lent = l }

-- the lines of an instruction, from what it reads
unfoldable pub program_of : State → Instruction → ℕ → NodeRef → Prog ℕ (P.Modeled ℕ)
program_of st i address flag = program_from (reads_in st.roles flag i) st.counts.names i address

-- "Jalr: a dispatch under rs1 (with x0 a `bad` line instead)"; the bad line stands after the link's two lines, if any
abbrev pub link_lines : Zeros → ℕ
link_lines z = cond z.rd 0 2

abbrev pub names_after : List ℕ → ℕ → Class → Zeros → ℕ → List ℕ
names_after names n c z address = cond (has_bad c z) (sets names n (bad_name address)) names

abbrev pub dispatches_after : List ℕ → ℕ → Class → Zeros → ℕ → ℕ → List ℕ
dispatches_after dispatches n c z rs1 address = cond (has_dispatch c z) (put_record dispatch_stride dispatches n (rs1 ∷ address ∷ [])) dispatches

abbrev pub bads_after : List ℕ → ℕ → Class → Zeros → ℕ → List ℕ
bads_after bads n c z lines = cond (has_bad c z) (put_record 1 bads n ((lines + link_lines z) ∷ [])) bads

unfoldable pub counts_after : Counts → Room → Counts
counts_after c n = record { names = c.names + n.names; edges = c.edges + n.edges; dispatches = c.dispatches + n.dispatches; bads = c.bads + n.bads }

-- what an accepted call gives, from the run of its program
unfoldable pub settled : Lent → State → Instruction → ℕ → Run Store (P.Modeled ℕ) → Answer
settled l st i address r =
    let c = class (kind_at i.kind) in
    let z = zeros_of i in
    record {
      lowered = record {
        refusal = 0;
        state = record {
          tally = r.state.tally;
          counts = counts_after st.counts (needs i address);
          roles = with_outcome (with_flows st.roles r.value.flows) i.rd r.value.outcome;
        };
      };
      lent = lent r.state.words
          (names_after l.names st.counts.names c z address)
          (edges_after l.edges st.counts.edges c address i.imm r.value.outcome)
          (dispatches_after l.dispatches st.counts.dispatches c z i.rs1 address)
          (bads_after l.bads st.counts.bads c z st.tally.lines);
    }

abbrev pub room_in : Lent → Room
room_in l = room_of (length l.list) (length l.names) (length l.edges) (length l.dispatches) (length l.bads)

-- a refused call gives its number, and the state and the lent lists as they were
abbrev pub refused : ℕ → Lent → State → Answer
refused n l st = record { lowered = record { refusal = n; state = st }; lent = l }

-- one call, the instruction i at an address under a flag, by the answer `fits` of the test of the roles
unfoldable pub lowering_given : Bool → Lent → State → Instruction → ℕ → NodeRef → Answer
lowering_given fits l st i address flag =
    let n = refusal_given fits l.list (room_in l) st.tally st.counts i address flag.0 in
    cond (eqb n 0) (settled l st i address (run_for address l.list st.tally (program_of st i address flag))) (refused n l st)

-- one call: the roles are tested on the list that it is lent
abbrev pub lowering : Lent → State → Instruction → ℕ → NodeRef → Answer
lowering l st i address flag = lowering_given (roles_fit l.list st.tally.lines 0 st.roles) l st i address flag
