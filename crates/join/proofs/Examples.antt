-- Joins on a small start, computed: what each refuses, and what an accepted one gives. Assumes nothing.
use Rattle.std.specs.Prelude.{None}
use Prim.Native.Nat.{ℕ, ◌+◌, ◌/◌}
use mathlib.Core.Path.{◌≡◌, refl}
use mathlib.Core.Bool.{Bool, true, ◌&&◌}
use mathlib.Core.List.{List, [], ◌∷◌, ◌++◌, map}
use lib.Dec.{T, eqb}
use lib.ListN.{length, replicate, take, drop}
use Rattle.btor2.specs.declared.NodeRef.{NodeRef}
use Rattle.btor2.specs.declared.NodeType.TheVariants.{Bit, Word, Memory}
use Rattle.btor2.specs.Op.{Op, const, and, eq, ite, state, state_init, next, carried}
use Rattle.btor2_list.specs.Record.{words_for, words, record_at}
use Rattle.btor2_list.specs.Node.{Node, node, line_of, op_of, no_name}
use Rattle.btor2_list.specs.View.{view}
use Rattle.btor2_list.specs.NameBytes.{our_area}
use Rattle.builder.specs.Append.{append_line}
use Rattle.btor2_list.specs.Records.{records_in, first_given}
use Rattle.builder.specs.Prog.{◌>>=◌}
use Rattle.builder.specs.Lines.{lines_of}
use Rattle.state.specs.Roles.{ref}
use Rattle.state.specs.RolesFit.{roles_fit}
use Rattle.text.specs.Ascii.{ascii}
use Rattle.text.specs.Numeral.{numeral}
use Rattle.join.specs.FlagName.{flag_name}
use Rattle.join.specs.Listed.{append_listed}
use Rattle.join.specs.ControlFlow.{control_flow_from_any, control_flow_from_regular, control_flow_from_branch, control_flow_from_ecall, control_flow_from_jalr}
use Rattle.join.specs.declared.Asked.{Asked}
use Rattle.join.specs.declared.JoinHeld.{JoinHeld}
use Rattle.join.specs.Program.{names_of, nexts_of, from_edge, join_edges, join_dispatches, join_address}
use Rattle.join.specs.Given.{no_flag}
use Rattle.join.specs.Refusal.{JoinLent, join_lent, JoinInput, join_input, join_program, flags_out, join_line_count, join_room_out, join_refusal}
use Rattle.join.specs.Join.{join_settled, joining}

-- ---- the start: the bits 0 and 1, a word, a memory, a bit's state, another 0, and a Next, which is no value line

start_lines_lem : List (Op ℕ)
start_lines_lem = const Bit 0 ∷ const Bit 1 ∷ const Word 0 ∷ state Memory no_name ∷ state Bit no_name ∷ const Bit 0 ∷ next Bit 4 0 ∷ []

stored : ℕ → List (Op ℕ) → List ℕ
stored nid [] = []
stored nid (o ∷ os) = words (line_of None nid o) ++ stored (nid + 1) os

-- every word is the word, every bit the bit 0 but that of 1
places : List NodeRef
places = map ref ((0 ∷ 1 ∷ 2 ∷ 2 ∷ 3 ∷ 3 ∷ []) ++ (replicate 64 2 ++ (3 ∷ 3 ∷ 2 ∷ 2 ∷ 2 ∷ 2 ∷ 0 ∷ 0 ∷ 0 ∷ [])))

begun : ℕ → ℕ → JoinHeld
begun nid sequentials = record {
  state = record { tally = record { lines = 7; nid = nid }; counts = record { names = 2; edges = 9; dispatches = 9; bads = 9 }; roles = places };
  sequentials = sequentials;
}

-- room for so many lines, bytes and sequentials
room : ℕ → ℕ → ℕ → JoinLent
room lines bytes sequentials = join_lent (stored 20 start_lines_lem ++ replicate (words_for lines + 3) 7) (replicate (bytes + 2) 7) (replicate sequentials 7)

-- ---- what is given: the first flag of 4 is the state, a second one and that of 8 are the bit 1

asked : ℕ → ℕ → ℕ → ℕ → ℕ → ℕ → Asked
asked edges dispatches flags mode none flow = record { edges = edges; dispatches = dispatches; flags = flags; mode = ref mode; none = ref none; flow = ref flow }

table : List ℕ
table = 4 ∷ 4 ∷ 4 ∷ 1 ∷ 8 ∷ 1 ∷ 12 ∷ 0 ∷ []

-- edges and dispatches with this table, the state for every other bit, from a flow
of : List ℕ → List ℕ → ℕ → JoinInput
of edges dispatches flow = join_input edges dispatches table (replicate 31 4) (asked (length edges / 4) (length dispatches / 2) 4 4 1 flow)

regular : ℕ → List ℕ
regular from = 0 ∷ from ∷ 0 ∷ no_flag ∷ []

branch : ℕ → ℕ → List ℕ
branch from condition = 0 ∷ from ∷ 1 ∷ condition ∷ []

syscall : ℕ → List ℕ
syscall from = 0 ∷ from ∷ 2 ∷ no_flag ∷ []

-- ---- accepted ones: the new lines with their identifiers, the flow, names and sequentials

record Got : Type 0 where
  refusal : ℕ
  nodes : List Node
  flow : ℕ
  nid : ℕ
  names : List ℕ
  sequentials : List ℕ

got : JoinInput → Got
got g =
    let a = joining (room 30 60 3) (begun 27 1) g in
    record {
      refusal = a.refusal;
      nodes = drop 7 (view a.lent.list a.held.state.tally.lines);
      flow = a.flow;
      nid = a.held.state.tally.nid;
      names = drop 2 (take a.held.state.counts.names a.lent.names);
      sequentials = take a.held.sequentials a.lent.sequentials;
    }

-- nothing to join; a flow that is the zero bit's own place is replaced without a line, and so is one that a flag made it
none : got (of [] [] 0) ≡ record { refusal = 0; nodes = []; flow = 0; nid = 27; names = []; sequentials = 7 ∷ [] }
unfolding got of table stored start_lines_lem places begun room asked regular branch syscall view record_at op_of carried roles_fit records_in first_given names_of nexts_of join_program join_address join_edges join_dispatches from_edge control_flow_from_any control_flow_from_regular control_flow_from_branch control_flow_from_ecall control_flow_from_jalr lines_of ◌>>=◌ append_line append_listed flag_name numeral flags_out join_line_count join_room_out join_refusal join_settled joining
none = refl

-- the first flag of 4; then the bit 1, by an ite; from a 0 that is not the zero bit's own place an ite too
regulars : got (of (regular 4 ++ regular 8) [] 0) ≡ record { refusal = 0; nodes = node None 27 (ite Bit 1 1 4) ∷ []; flow = 7; nid = 28; names = []; sequentials = 7 ∷ [] }
unfolding got of table stored start_lines_lem places begun room asked regular branch syscall view record_at op_of carried roles_fit records_in first_given names_of nexts_of join_program join_address join_edges join_dispatches from_edge control_flow_from_any control_flow_from_regular control_flow_from_branch control_flow_from_ecall control_flow_from_jalr lines_of ◌>>=◌ append_line append_listed flag_name numeral flags_out join_line_count join_room_out join_refusal join_settled joining
regulars = refl

zeros : got (of (regular 12 ++ branch 4 1) [] 0) ≡ record { refusal = 0; nodes = node None 27 (and Bit 4 1) ∷ []; flow = 7; nid = 28; names = []; sequentials = 7 ∷ [] }
unfolding got of table stored start_lines_lem places begun room asked regular branch syscall view record_at op_of carried roles_fit records_in first_given names_of nexts_of join_program join_address join_edges join_dispatches from_edge control_flow_from_any control_flow_from_regular control_flow_from_branch control_flow_from_ecall control_flow_from_jalr lines_of ◌>>=◌ append_line append_listed flag_name numeral flags_out join_line_count join_room_out join_refusal join_settled joining
zeros = refl

other_zero : got (of (regular 4) [] 5) ≡ record { refusal = 0; nodes = node None 27 (ite Bit 4 1 5) ∷ []; flow = 7; nid = 28; names = []; sequentials = 7 ∷ [] }
unfolding got of table stored start_lines_lem places begun room asked regular branch syscall view record_at op_of carried roles_fit records_in first_given names_of nexts_of join_program join_address join_edges join_dispatches from_edge control_flow_from_any control_flow_from_regular control_flow_from_branch control_flow_from_ecall control_flow_from_jalr lines_of ◌>>=◌ append_line append_listed flag_name numeral flags_out join_line_count join_room_out join_refusal join_settled joining
other_zero = refl

-- a syscall takes six identifiers for its five lines; its Next is listed with the sequentials; the dispatch comes after it
syscalls : got (of (syscall 8) (31 ∷ 2 ∷ []) 4)
    ≡ record {
      refusal = 0;
      nodes =
          node None 27 (state_init Bit 0 (record { area = our_area; at = 2; len = 21 }))
          ∷ node None 29 (ite Bit 7 4 1)
          ∷ node None 30 (next Bit 7 8)
          ∷ node None 31 (and Bit 7 1)
          ∷ node None 32 (ite Bit 10 1 4)
          ∷ node None 33 (eq 2 2)
          ∷ node None 34 (and Bit 4 12)
          ∷ node None 35 (ite Bit 13 1 11)
          ∷ [];
      flow = 14;
      nid = 36;
      names = ascii "kernel-mode-pc-flag-8";
      sequentials = 7 ∷ 9 ∷ [];
    }
unfolding got of table stored start_lines_lem places begun room asked regular branch syscall view record_at op_of carried roles_fit records_in first_given names_of nexts_of join_program join_address join_edges join_dispatches from_edge control_flow_from_any control_flow_from_regular control_flow_from_branch control_flow_from_ecall control_flow_from_jalr lines_of ◌>>=◌ append_line append_listed flag_name numeral flags_out join_line_count join_room_out join_refusal join_settled joining
syscalls = refl

-- ---- refused ones, each beside one that is not: the number of the first refusal that applies

numbered : JoinHeld → JoinLent → JoinInput → ℕ → Bool
numbered h l g n = eqb (join_refusal l h g) n

-- what each of these is given in the place of the above
with_table : List ℕ → ℕ → JoinInput
with_table flags n = join_input (regular 4) [] flags (replicate 31 4) (asked 1 0 n 4 1 0)

with_bits : ℕ → ℕ → ℕ → ℕ → ℕ → JoinInput
with_bits mode none first last flow = join_input [] [] [] ((first ∷ replicate 29 4) ++ (last ∷ [])) (asked 0 0 0 mode none flow)

counts : ℕ → ℕ → ℕ → JoinInput
counts edges dispatches flags = join_input (regular 4 ++ (0 ∷ 4 ∷ [])) (1 ∷ 2 ∷ 1 ∷ []) (4 ∷ 4 ∷ 4 ∷ []) (replicate 31 4) (asked edges dispatches flags 4 1 0)

one : JoinLent
one = room 0 0 0

every : List Bool → Bool
every [] = true
every (b ∷ bs) = b && every bs

cases : List Bool
cases =
    numbered (begun 2149580800 0) one (of [] [] 0) 0
    ∷ numbered (begun 2149580801 0) one (of [] [] 0) 9
    ∷ numbered (begun 27 1) one (of [] [] 0) 9
    ∷ numbered (begun 27 0) one (counts 1 0 2) 9
    ∷ numbered (begun 27 0) one (counts 2 0 1) 9
    ∷ numbered (begun 27 0) one (counts 1 2 1) 9
    ∷ numbered (begun 27 0) (room 3 0 0) (counts 1 1 1) 0
    -- 15
    ∷ numbered (begun 27 0) one (with_table (4 ∷ 4 ∷ 8 ∷ 1 ∷ []) 2) 0
    ∷ numbered (begun 27 0) one (with_table (8 ∷ 4 ∷ []) 1) 15
    ∷ numbered (begun 27 0) one (with_table (4 ∷ 4 ∷ 8 ∷ 2 ∷ []) 2) 15
    ∷ numbered (begun 27 0) one (with_table (4 ∷ 4 ∷ 4 ∷ 7 ∷ []) 2) 15
    ∷ numbered (begun 27 0) one (with_table (4 ∷ 6 ∷ 4 ∷ 4 ∷ []) 2) 15
    ∷ numbered (begun 27 0) one (with_bits 4 4 4 4 4) 0
    ∷ numbered (begun 27 0) one (with_bits 6 4 4 4 4) 15
    ∷ numbered (begun 27 0) one (with_bits 4 7 4 4 4) 15
    ∷ numbered (begun 27 0) one (with_bits 4 4 2 4 4) 15
    ∷ numbered (begun 27 0) one (with_bits 4 4 4 3 4) 15
    ∷ numbered (begun 27 0) one (with_bits 4 4 4 4 2) 15
    -- 16
    ∷ numbered (begun 27 0) (room 1 0 0) (of (branch 4 1) [] 0) 0
    ∷ numbered (begun 27 0) one (of (branch 4 no_flag) [] 0) 16
    ∷ numbered (begun 27 0) one (of (branch 4 2) [] 0) 16
    ∷ numbered (begun 27 0) one (of (0 ∷ 4 ∷ 3 ∷ 1 ∷ []) [] 0) 16
    ∷ numbered (begun 27 0) (room 2 0 0) (of [] (31 ∷ 2 ∷ []) 0) 0
    ∷ numbered (begun 27 0) one (of [] (0 ∷ 2 ∷ []) 0) 16
    ∷ numbered (begun 27 0) one (of [] (32 ∷ 2 ∷ []) 0) 16
    ∷ numbered (begun 27 0) one (of [] (1 ∷ 4 ∷ []) 0) 16
    -- 8
    ∷ numbered (begun 27 0) (room 4 21 1) (of (syscall 8) [] 0) 0
    ∷ numbered (begun 27 0) (room 3 21 1) (of (syscall 8) [] 0) 8
    ∷ numbered (begun 27 0) (room 4 20 1) (of (syscall 8) [] 0) 8
    ∷ numbered (begun 27 0) (room 4 21 0) (of (syscall 8) [] 0) 8
    -- one number before another
    ∷ numbered (begun 27 0) one (of (0 ∷ 5 ∷ 3 ∷ 1 ∷ []) [] 0) 15
    ∷ numbered (begun 27 0) one (of (syscall 8) (0 ∷ 2 ∷ []) 0) 16
    ∷ []

all_numbered : T (every cases)
unfolding got of table stored start_lines_lem places begun room asked regular branch syscall view record_at op_of carried roles_fit records_in first_given names_of nexts_of join_program join_address join_edges join_dispatches from_edge control_flow_from_any control_flow_from_regular control_flow_from_branch control_flow_from_ecall control_flow_from_jalr lines_of ◌>>=◌ append_line append_listed flag_name numeral flags_out join_line_count join_room_out join_refusal join_settled joining numbered with_table with_bits counts one every cases
all_numbered = tt
