-- By the origin. Assumes nothing.
use Rattle.std.proofs.Common.{◌≡◌, false, eqb, refl, sym, rules}
use native.Mathlib.Nat.{add-zero}
use Rattle.edges.specs.declared.Origin.TheVariants.{Branch, Syscall}
use Rattle.edges.proofs.Origins.{number_of, other, none}
use Rattle.edges.specs.Edges.{branch_origin, syscall_origin}
use Rattle.join.specs.Program.{from_edge}
use Rattle.join.proofs.Lists.{lists, quiet_regular, quiet_branch}
use Rattle.join_calls.proofs.lines.from_edge.Goals as goal
use Rattle.join_calls.proofs.lines.from_edge.Goals.{in_default-via-in-Some+in_default, in_default-via-in_default}

pub returns-in-Some-Branch : goal.returns-in-Some-Branch
unfolding from_edge
returns-in-Some-Branch c =
    rw (number_of c.args.edge.origin Branch cc) (record {
      lists = lists (quiet_branch _ _ _ _) c.control_flow_from_branch.ensures.is;
      texts = refl;
      named = sym (add-zero _);
      counted = sym (add-zero _);
      same_list = c.control_flow_from_branch.ensures.same;
      same_areas = record { names = refl; sequentials = refl };
    })

pub returns-in-Some-Syscall : goal.returns-in-Some-Syscall
unfolding from_edge
returns-in-Some-Syscall c = rw (number_of c.args.edge.origin Syscall cc) c.control_flow_from_ecall.ensures

pub returns-in_default : goal.returns-in_default
unfolding from_edge
returns-in_default c =
    let n = c.args.edge.origin in
    let branch : eqb n branch_origin ≡ false = elim c.in_default.branch [
      | in_default-via-in-Some+in_default w ↦ other n w.in_default.field-0 Branch (search rules) cc
      | in_default-via-in_default w ↦ none n Branch cc
    ] in
    let syscall : eqb n syscall_origin ≡ false = elim c.in_default.branch [
      | in_default-via-in-Some+in_default w ↦ other n w.in_default.field-0 Syscall (search rules) cc
      | in_default-via-in_default w ↦ none n Syscall cc
    ] in
    rw (branch, syscall) (record {
      lists = lists (quiet_regular _ _ _) c.control_flow_from_regular.ensures.is;
      texts = refl;
      named = sym (add-zero _);
      counted = sym (add-zero _);
      same_list = c.control_flow_from_regular.ensures.same;
      same_areas = record { names = refl; sequentials = refl };
    })
