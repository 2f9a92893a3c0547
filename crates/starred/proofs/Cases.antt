-- The starred bench cases, computed from the definitions that the contracts cite. Assumes nothing.
use mathlib.Core.Path.{refl}
use Rattle.bitvec.specs.Smtlib as Smt
use Rattle.bitvec.specs.Smtlib.{bit, negative, bvnot, bvneg, bvadd, bvsub, bvmul, bvudiv, bvsdiv, bvand, bvshl, bvlshr, bvult, bvcomp, zero_extend}
use Rattle.btor2.specs.Op.{map_op, carried}
use Rattle.btor2.specs.Walk.{walk}
use Rattle.btor2.specs.Value.{binary, eval_op, values, value}
use Rattle.btor2_list.specs.Record.{record_at}
use Rattle.btor2_list.specs.Node.{op_of}
use Rattle.btor2_list.specs.View.{view}
use Rattle.builder.specs.Prog.{◌>>=◌}
use Rattle.builder.specs.Append.{append_line}
use Rattle.builder_ops.specs.Composed.{new_neq, new_ugte, new_sra, new_shift_right, new_sext_by, check_addition_overflow}
use Rattle.models.specs.Counters.{model_address, word_address, bit_offset, model_l, model_load}
use Rattle.models.specs.Kinds.{constant, link, with_constant, addi_result, sum_with_constant, model_addi, shifted_back, divided, model_divw, model_branch}
use Rattle.models.specs.Model.{reg_flow_ite, unimplemented, translate}
use Rattle.riscv.specs.Constant.{upper, constant_of}
use Rattle.riscv.specs.Refusal.{refusal}
use Rattle.state.specs.Roles.{operands_for, flows_in, with_flows}
use Rattle.state.specs.RolesFit.{roles_fit}
use Rattle.text.specs.Numeral.{numeral}
use Rattle.text.specs.BadName.{bad_name}
use Rattle.lowering_refusals.specs.Refusal.{needs_of, room_out, flag_out, refusal_given}
use Rattle.state.specs.Room.{room_of}
use Rattle.lowering.specs.Lines.{program_with}
use Rattle.lowering.specs.Lowering.{program_of, counts_after, settled, lowering_given}
use Rattle.listing_start.specs.Start.{start_names, concat, start_name, named_states, start_ops, records, start_words, start_in, from_on, start_roles, start_state}
use Rattle.listing_bytes.specs.Storage.{start_lent}
use Rattle.starred.specs.Case.{answer_to_case, states}
use Rattle.listing_bytes.specs.Storage.{start_lent}
use Rattle.starred.specs.Cases.{cases, Starred}

pub starred : Starred
unfolding cases answer_to_case states start_lent start_names concat start_name named_states start_ops records start_words start_in from_on start_roles start_state lowering_given refusal_given room_of needs_of roles_fit record_at op_of carried refusal flag_out room_out settled program_of program_with counts_after append_line constant_of upper operands_for flows_in with_flows translate reg_flow_ite unimplemented ◌>>=◌ new_neq new_ugte new_sra new_shift_right new_sext_by check_addition_overflow model_address word_address bit_offset model_l model_load constant link with_constant addi_result sum_with_constant model_addi shifted_back divided model_divw model_branch numeral bad_name view walk map_op eval_op binary values value Smt.ite bit negative bvnot bvneg bvadd bvsub bvmul bvudiv bvsdiv bvand bvshl bvlshr bvult bvcomp zero_extend
starred = refl
