-- The eight flows stand one after the other. Assumes nothing.
use Rattle.std.proofs.Common.{[], ◌∷◌, refl, arith, ◌∙◌}
use Rattle.edges.proofs.Copied.{copied}
use Rattle.state.specs.Roles.{counter_flow, maximum_flow, division_flow, remainder_flow, access_flow, addition_flow, multiplication_flow, ecall_flow, with_flows}
use Rattle.state.proofs.Put.{unchanged, put, kept_is}
use Rattle.state.proofs.put_flows.Goals as goal

pub returns : goal.returns
unfolding with_flows
returns c =
    let f = c.args.f in
    let ws = c.args.words.now in
    rw c.copy_from_slice.ensures.after
    (copied ws (f.counter.0 ∷ f.maximum.0 ∷ f.division.0 ∷ f.remainder.0 ∷ f.access.0 ∷ f.addition.0 ∷ f.multiplication.0 ∷ f.ecall.0 ∷ []) 77 8 refl (omega arith)
    ∙ kept_is
    (put (put (put (put (put (put (put (put (unchanged ws c.requires) counter_flow f.counter.0 (omega arith)) maximum_flow f.maximum.0 (omega arith)) division_flow f.division.0 (omega arith))
    remainder_flow f.remainder.0 (omega arith)) access_flow f.access.0 (omega arith)) addition_flow f.addition.0 (omega arith)) multiplication_flow f.multiplication.0 (omega arith)) ecall_flow f.ecall.0 (omega arith)))
