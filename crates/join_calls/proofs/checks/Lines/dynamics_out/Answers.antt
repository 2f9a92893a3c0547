-- A search through the dynamic flags, which are the words themselves. Assumes nothing.
use Rattle.std.proofs.Common.{rules, ap, sym, ◌∙◌, List, ℕ}
use Rattle.std.proofs.lemmas.Iterator.{YieldsList-from_slice}
use Rattle.list_check.specs.Lines.{any}
use Rattle.join.specs.Refusal.{bit_out}
use Rattle.join_calls.proofs.InChunks.{any_from, dynamics_are}
use Rattle.join_calls.proofs.checks.Lines.dynamics_out.Goals as goal

pub returns : goal.returns
returns c =
    let a = c.args in
    any_from (bit_out a.self.list.now a.self.count) _ _ _ c.any.ensures.ran (YieldsList-from_slice a.dynamics.now c.iter.ensures.rest) (λ x b q k. search rules)
    ∙ ap (λ (ws : List ℕ). any (bit_out a.self.list.now a.self.count) ws) (sym (dynamics_are a.dynamics.now c.told-dynamics))
