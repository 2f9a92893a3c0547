-- The roles from here on fit where all do, as long as those before did. Assumes nothing.
use mathlib.Core.Path.{refl, sym, ap, ◌∙◌}
use mathlib.Core.Bool.{not}
use Rattle.state.proofs.Fit.{fit_on, fit_not, fit_end}
use native.Mathlib.Omega.{arith}
use borrow.Author.Rules.{rules}
use Rattle.btor2.specs.Sort.{sort_number}
use Rattle.btor2_list.specs.Look.{look_at}
use Rattle.state.specs.Roles.{role}
use Rattle.state.specs.RolesFit.{value_sort, role_sort}
use Rattle.state.proofs.Sorts.{out_not, out_is}
use Rattle.state.proofs.roles_check.roles_out.Goals as goal

pub loop-role-init : goal.loop-role-init
loop-role-init c = (search rules, refl)

pub returns-then-role_out : goal.returns-then-role_out
returns-then-role_out c =
    let a = c.args in
    sym (ap not (sym c.loop-role.invariant.1 ∙ fit_not a.list.now a.lines a.roles c.loop-role.role (omega arith)
    (out_not c.role_out.result (value_sort (look_at a.list.now a.lines (role a.roles c.loop-role.role).0)) (sort_number c.role_sort.result) (sort_number (role_sort c.loop-role.role)) c.role_out.ensures (ap sort_number c.role_sort.ensures.is) c.if-role_out.true)))

pub loop-role-preserved : goal.loop-role-preserved
loop-role-preserved c =
    let a = c.args in (
      c.loop-role.invariant.0,
      fit_on a.list.now a.lines a.roles c.loop-role.role (omega arith)
          (out_is c.role_out.result (value_sort (look_at a.list.now a.lines (role a.roles c.loop-role.role).0)) (sort_number c.role_sort.result) (sort_number (role_sort c.loop-role.role)) c.role_out.ensures (ap sort_number c.role_sort.ensures.is) c.if-role_out.false) ∙ c.loop-role.invariant.1,
    )

pub returns : goal.returns
returns c =
    let a = c.args in
    sym (ap not (sym c.loop-role.invariant.1 ∙ fit_end a.list.now a.lines a.roles c.loop-role.role (omega arith)))
