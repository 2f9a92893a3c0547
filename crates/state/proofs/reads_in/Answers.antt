-- Fewer words hold no roles: each is the place 0. Assumes nothing.
use Rattle.std.proofs.Common.{◌≡◌, ℕ, [], replicate, lt-ltb, ◌∙◌}
use Rattle.std.proofs.lemmas.List.{get_or-replicate}
use lib.ListN.{get_or-eq_default}
use Rattle.bitvec.proofs.Base.{by_le}
use Rattle.btor2.specs.declared.NodeRef.{NodeRef}
use Rattle.riscv.specs.declared.Instruction.{Instruction}
use Rattle.state.specs.Roles.{ref, role, role_count, node_role, flow_role, operands_for, flows_in, reads_in}
use Rattle.state.specs.Words.{state_words, places_in, roles_in}
use Rattle.state.proofs.reads_in.Goals as goal

no_role : (k : ℕ) → role (replicate role_count (ref 0)) k ≡ ref 0
no_role k = by_le role_count k (λ l. get_or-eq_default (replicate role_count (ref 0)) (ref 0) {n = k} l) (λ l. get_or-replicate role_count k (ref 0) (ref 0) l)

nothing_read : (flag : NodeRef) (i : Instruction) → reads_in (roles_in (replicate state_words 0)) flag i ≡ reads_in [] flag i
unfolding operands_for flows_in roles_in places_in
nothing_read flag i = rw (no_role (node_role i.rs1), no_role (node_role i.rs2), no_role (flow_role i.rd))

pub returns-then-words-lt-STATE_WORDS : goal.returns-then-words-lt-STATE_WORDS
returns-then-words-lt-STATE_WORDS c = rw (lt-ltb _ state_words c.if-words-lt-STATE_WORDS.true) (c.reads_of_roles.ensures ∙ nothing_read c.args.flag c.args.i)
