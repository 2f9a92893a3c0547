-- Line by line; the Next's place goes into the sequentials. Assumes nothing.
use Rattle.std.proofs.Common.{refl, ◌∙◌, arith}
use Rattle.join.specs.ControlFlow.{control_flow_from_ecall}
use Rattle.join.proofs.Lists.{on, lists, lists_next, quiet_line, quiet_any}
use Rattle.join_calls.proofs.control_flow.control_flow_from_ecall.Goals as goal

pub returns : goal.returns
unfolding control_flow_from_ecall
returns c =
    let put = c.put_flag_name-name.ensures in
    let listed = c.list_next.ensures in
    record {
      lists =
          rw (listed.puts, listed.next, put.sequentials, put.listed)
          (on _ (lists (quiet_line refl) (rw put.is at c.new_state-state.ensures.is))
          (on _ (lists (quiet_line refl) c.new_ite-value.ensures.is)
          (on _ (lists_next c.new_next-next.ensures.is)
          (on _ (lists (quiet_line refl) c.new_and-activate.ensures.is) (lists (quiet_any _ _ _) c.control_flow_from_any.ensures.is)))));
      texts = listed.names ∙ put.puts;
      named = listed.named ∙ put.next;
      counted = omega (arith, listed.next, put.listed);
      same_list = cc;
      same_areas = record { names = cc; sequentials = cc };
    }
