-- A bench case: one call on the listing's start, and what is to come of it, by the definition that the code's `lower` equals.
use Rattle.std.specs.Prelude.{ℕ, ◌-◌, ◌*◌, cond, List, [], ◌∷◌, map, eqb, get_or, take}
use Rattle.btor2.specs.declared.NodeRef.{NodeRef}
use Rattle.btor2.specs.Op.{Op, unknown}
use Rattle.btor2.specs.Value as B
use Rattle.btor2.specs.Value.{Env}
use Rattle.btor2_list.specs.View.{view}
use Rattle.list_check.specs.Lines.{ops}
use Rattle.edges.specs.Edges.{edge_stride, dispatch_stride}
use Rattle.riscv.specs.declared.Instruction.{Instruction}
use Rattle.riscv.specs.Kind as K
use Rattle.riscv.specs.declared.Kind.{Kind}
use Rattle.lowering.specs.Lowering.{Answer, lowering}
use Rattle.listing_start.specs.Start.{placed, start_state}
use Rattle.listing_bytes.specs.Storage.{start_lent}

-- ---- what is asked: an instruction at an address

pub record AskedCase : Type 0 where
  pub instruction : Instruction
  pub address : ℕ

-- kind, rd, rs1, rs2, imm
abbrev pub asked : ℕ → Kind → ℕ → ℕ → ℕ → ℕ → AskedCase
asked address k rd rs1 rs2 imm = record { instruction = record { kind = K.kind_number k; rd = rd; rs1 = rs1; rs2 = rs2; imm = imm }; address = address }

-- "Every instruction uses flag 58."
abbrev pub flag : NodeRef
flag = placed 58

abbrev pub memory : NodeRef
memory = placed 55

-- lowered from the listing's start, with what it lends
unfoldable pub answer_to_case : AskedCase → Answer
answer_to_case a = lowering start_lent start_state a.instruction a.address flag

-- ---- what is to come of it

-- the states of the start: what x1 to x31 are, x1 being at place 4, and what the memory has at each address; the flag is true
unfoldable pub states : (ℕ → ℕ) → (ℕ → ℕ) → Env
states x cell place = cond (eqb place flag.0) (B.number 1) (cond (eqb place memory.0) (B.array cell) (B.number (x (place - 3))))

pub data Finding : Type 0 where
  -- the refusal; 0 is an accepted call
  refusal : ℕ → Finding
  -- how many lines the list has then, and the line at a place
  lines : ℕ → Finding
  line : ℕ → Op ℕ → Finding
  -- the value of the line at a place, for some states
  value : ℕ → Env → ℕ → Finding
  -- all in-edges, dispatches and bads, record after record
  edges : List ℕ → Finding
  dispatches : List ℕ → Finding
  bads : List ℕ → Finding

abbrev pub lines_after : Answer → List (Op ℕ)
lines_after a = ops (view a.lent.list a.lowered.state.tally.lines)

-- what a call gives, where a finding asks
abbrev pub found : Answer → Finding → Finding
found a (refusal n) = refusal a.lowered.refusal
found a (lines n) = lines a.lowered.state.tally.lines
found a (line p o) = line p (get_or (lines_after a) p unknown)
found a (value p env n) = value p env (B.value env (lines_after a) p).num
found a (edges es) = edges (take (a.lowered.state.counts.edges * edge_stride) a.lent.edges)
found a (dispatches ds) = dispatches (take (a.lowered.state.counts.dispatches * dispatch_stride) a.lent.dispatches)
found a (bads bs) = bads (take a.lowered.state.counts.bads a.lent.bads)

-- a table of cases, with what the calls give in place of what is to come of them
abbrev pub answered : List (AskedCase × List Finding) → List (AskedCase × List Finding)
answered [] = []
answered (c ∷ cs) = (c.0, map (found (answer_to_case c.0)) c.1) ∷ answered cs
