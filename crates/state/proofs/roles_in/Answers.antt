-- As many roles as were passed are read. Assumes nothing.
use mathlib.Core.Path.{◌≡◌, refl, ap, ◌∙◌, sym}
use mathlib.Core.List.{List}
use native.Mathlib.Omega.{arith}
use lib.ListN.{length-set, set, replicate}
use Rattle.btor2.specs.declared.NodeRef.{NodeRef}
use Rattle.state.specs.Roles.{ref, role, role_count}
use Rattle.state.specs.Words.{roles_in}
use Rattle.state.proofs.Words.{role_at, size_in}
use Rattle.state.proofs.Stored.{front, front_more, front_all}
use Rattle.state.proofs.roles_in.Goals as goal

pub loop-k-init : goal.loop-k-init
loop-k-init c = (refl, refl, refl)

pub loop-k-preserved : goal.loop-k-preserved
loop-k-preserved c =
    let l = c.loop-k in
    let a = c.args in
    let read : ref c.word_at.result ≡ role (roles_in a.words.now) l.k = ap ref c.word_at.ensures ∙ sym (role_at a.words.now l.k c.loop-k-test.true) in (
      refl,
      length-set l.roles l.k (ref c.word_at.result) ∙ l.invariant.1,
      ap (λ (x : List NodeRef). set x l.k (ref c.word_at.result)) l.invariant.2
          ∙ ap (λ x. set (front (roles_in a.words.now) (replicate role_count (ref 0)) l.k) l.k x) read
          ∙ front_more (roles_in a.words.now) (replicate role_count (ref 0)) l.k (ref 0) (omega (arith, size_in a.words.now, c.loop-k-test.true)) (omega (arith, c.loop-k-test.true)),
    )

pub returns : goal.returns
returns c =
    let l = c.loop-k in
    let a = c.args in
    let all : l.k ≡ role_count = omega arith in
    l.invariant.2 ∙ ap (front (roles_in a.words.now) (replicate role_count (ref 0))) all ∙ front_all (roles_in a.words.now) (replicate role_count (ref 0)) role_count (size_in a.words.now) refl
