-- All edges and dispatches of a join. Assumes nothing.
use Prim.Native.Nat.{ℕ, ◌+◌, ◌<◌, ◌%◌, ◌^◌}
use mathlib.Core.Path.{◌≡◌, refl, sym, ◌∙◌, ap, ap₂, subst}
use mathlib.Core.Bool.{Bool, true, false, cond, ◌&&◌, ◌||◌, or-false}
use mathlib.Core.List.{List, [], ◌∷◌, ◌++◌, append-nil}
use borrow.Author.Tests.{eqb-true, ne_eqb}
use lib.Dec.{eqb}
use lib.ListN.{length}
use Rattle.btor2.specs.Op.{Op}
use Rattle.btor2.specs.Value.{Env}
use Rattle.btor2.proofs.Value.{value_kept}
use Rattle.list_check.specs.Lines.{any}
use Rattle.builder.specs.Prog.{Run}
use Rattle.builder.proofs.Exec.{exec-bind}
use Rattle.join.specs.ControlFlow.{Bits, Kernel, control_flow_from_regular, control_flow_from_branch, control_flow_from_ecall, control_flow_from_jalr}
use Rattle.join.specs.Program.{Edge, Dispatch, from_edge, join_edges, join_dispatches, join_address}
use Rattle.join.specs.FlagName.{name_at}
use Rattle.join.specs.Program.{edge_name}
use Rattle.join_laws.specs.Push.{push, pushed}
use Rattle.join_laws.specs.Active.{on, active_edge, any_active, active_plain, active_dispatch, NoSyscall}
use Rattle.join_laws.proofs.Sound.{Bit, KnownBits, Sound, AllSound, Reached, AllReached, JoinMeans, PlainMeans}
use Rattle.join_laws.proofs.Pushed.{bit_kept}
use Rattle.join_laws.proofs.Step.{Stepped, given_kept, wider, by, twice, regular, branched, called, jumped}

module _ (env : Env) (flag_of : ℕ → ℕ) (b : Bits ℕ) (k : Kernel ℕ) where
  -- what holds of the list when a step begins
  pub record EdgeReady (xs : List (Op ℕ)) : Type 0 where
    pub given : KnownBits env xs b
    pub none : Bit env xs k.none

  pub ready_kept : {xs ys : List (Op ℕ)} (zs : List (Op ℕ)) → ys ≡ xs ++ zs → EdgeReady xs → EdgeReady ys
  ready_kept {xs} {ys} zs e r = subst (λ l. EdgeReady l) (sym e) (record { given = given_kept env zs r.given; none = bit_kept env xs zs r.none })

  sound_kept : (xs ys zs : List (Op ℕ)) → ys ≡ xs ++ zs → (es : List (Edge ℕ)) → AllSound env flag_of k xs es → AllSound env flag_of k ys es
  sound_kept xs ys zs e [] s = s
  sound_kept xs ys zs e (x ∷ es) s = (
    subst (λ l. Sound env flag_of k l x) (sym e) (record { flag = bit_kept env xs zs s.0.flag; condition = λ o. bit_kept env xs zs (s.0.condition o) }),
    sound_kept xs ys zs e es s.1,
  )

  pub edge : (xs : List (Op ℕ)) → EdgeReady xs → (at : ℕ) (x : Edge ℕ) → Sound env flag_of k xs x → (flow : ℕ) → flow < length xs
      → Stepped env xs flow (active_edge env flag_of k xs x) (pushed xs (from_edge b k flag_of at x flow))
  unfolding from_edge
  edge xs r at x s flow hf = go (eqb x.origin 1) (eqb x.origin 2) refl
    where
      f : ℕ
      f = flag_of x.from

      go : (t u : Bool) → eqb x.origin 1 ≡ t
          → Stepped env xs flow (cond t (on env xs f && on env xs x.condition) (cond u (eqb ((env (length xs)).num % 2 ^ 1) 1 && on env xs k.none) (on env xs f)))
          (pushed xs (cond t (control_flow_from_branch b f x.condition flow) (cond u (control_flow_from_ecall b k f (name_at at x.from) flow) (control_flow_from_regular b f flow))))
      go true u e = branched env xs b r.given flow hf f x.condition s.flag (s.condition (eqb-true _ _ e))
      go false true e = called env xs b r.given flow hf k f (name_at at x.from) r.none
      go false false e = regular env xs b r.given flow hf f s.flag.place

  pub edges : (xs : List (Op ℕ)) → EdgeReady xs → (at : ℕ) (es : List (Edge ℕ)) → AllSound env flag_of k xs es → (flow : ℕ) → flow < length xs
      → Stepped env xs flow (any_active env flag_of b k xs at es flow) (pushed xs (join_edges b k flag_of at es flow))
  unfolding join_edges any_active
  edges xs r at [] s flow hf = record { more = []; extends = sym (append-nil xs); place = hf; is = refl }
  edges xs r at (x ∷ es) s flow hf =
      let one = edge xs r at x s.0 flow hf in
      let y = pushed xs (from_edge b k flag_of at x flow) in
      subst (λ q. Stepped env xs flow (active_edge env flag_of k xs x || any_active env flag_of b k y.state (at + length (edge_name x.origin x.from)) es y.value) q)
      (sym (exec-bind push (from_edge b k flag_of at x flow) (λ f. join_edges b k flag_of (at + length (edge_name x.origin x.from)) es f) xs))
      (twice env one
      (edges y.state (ready_kept one.more one.extends r) (at + length (edge_name x.origin x.from)) es (sound_kept xs y.state one.more one.extends es s.1) y.value one.place))

module _ (env : Env) (b : Bits ℕ) (registers dynamics : ℕ → ℕ) where
  reached_kept : (xs ys zs : List (Op ℕ)) → ys ≡ xs ++ zs → (ds : List (Dispatch ℕ)) → AllReached env registers dynamics xs ds → AllReached env registers dynamics ys ds
  reached_kept xs ys zs e [] s = s
  reached_kept xs ys zs e (x ∷ ds) s = (
    subst (λ l. Reached env registers dynamics l x) (sym e)
        (record { dynamic = bit_kept env xs zs s.0.dynamic; register = wider env xs zs s.0.register; address = wider env xs zs s.0.address }),
    reached_kept xs ys zs e ds s.1,
  )

  dispatched_kept : (xs ys zs : List (Op ℕ)) → ys ≡ xs ++ zs → (ds : List (Dispatch ℕ)) → AllReached env registers dynamics xs ds → any (active_dispatch env registers dynamics ys) ds ≡ any (active_dispatch env registers dynamics xs) ds
  dispatched_kept xs ys zs e [] s = refl
  dispatched_kept xs ys zs e (x ∷ ds) s =
      let head : active_dispatch env registers dynamics (xs ++ zs) x ≡ active_dispatch env registers dynamics xs x =
      rw (value_kept env xs zs (dynamics x.register) s.0.dynamic.place, value_kept env xs zs (registers x.register) s.0.register, value_kept env xs zs x.address s.0.address) in
      ap₂ (λ p q. p || q) (ap (λ l. active_dispatch env registers dynamics l x) e ∙ head) (dispatched_kept xs ys zs e ds s.1)

  pub dispatches : (xs : List (Op ℕ)) → KnownBits env xs b → (ds : List (Dispatch ℕ)) → AllReached env registers dynamics xs ds → (flow : ℕ) → flow < length xs
      → Stepped env xs flow (any (active_dispatch env registers dynamics xs) ds) (pushed xs (join_dispatches b registers dynamics ds flow))
  unfolding join_dispatches
  dispatches xs g [] s flow hf = record { more = []; extends = sym (append-nil xs); place = hf; is = refl }
  dispatches xs g (x ∷ ds) s flow hf =
      let one = jumped env xs b g flow hf (registers x.register) (dynamics x.register) x.address s.0.dynamic in
      let p = control_flow_from_jalr b (registers x.register) (dynamics x.register) x.address flow in
      let y = pushed xs p in
      subst (λ q. Stepped env xs flow (active_dispatch env registers dynamics xs x || any (active_dispatch env registers dynamics xs) ds) q)
      (sym (exec-bind push p (λ f. join_dispatches b registers dynamics ds f) xs))
      (by env (ap (λ t. active_dispatch env registers dynamics xs x || t) (dispatched_kept xs y.state one.more one.extends ds s.1))
      (twice env one
      (dispatches y.state (subst (λ l. KnownBits env l b) (sym one.extends) (given_kept env one.more g)) ds (reached_kept xs y.state one.more one.extends ds s.1) y.value one.place)))

pub join_means : JoinMeans
unfolding join_address
join_means env xs b k flag_of registers dynamics at es ds flow g n s d hf =
    let one = edges env flag_of b k xs (record { given = g; none = n }) at es s flow hf in
    let p = join_edges b k flag_of at es flow in
    let y = pushed xs p in
    subst (λ (q : Run (List (Op ℕ)) ℕ). on env q.state q.value ≡ ((any_active env flag_of b k xs at es flow || any (active_dispatch env registers dynamics xs) ds) || on env xs flow))
    (sym (exec-bind push p (λ f. join_dispatches b registers dynamics ds f) xs))
    (by env (ap (λ t. any_active env flag_of b k xs at es flow || t) (dispatched_kept env b registers dynamics xs y.state one.more one.extends ds d))
    (twice env one
    (dispatches env b registers dynamics y.state (subst (λ l. KnownBits env l b) (sym one.extends) (given_kept env one.more g)) ds (reached_kept env b registers dynamics xs y.state one.more one.extends ds d) y.value one.place))).is

-- ---- regular and branch edges

module _ (env : Env) (flag_of : ℕ → ℕ) (b : Bits ℕ) (k : Kernel ℕ) where
  plain_kept : (xs ys zs : List (Op ℕ)) → ys ≡ xs ++ zs → (es : List (Edge ℕ)) → AllSound env flag_of k xs es → any (active_plain env flag_of ys) es ≡ any (active_plain env flag_of xs) es
  plain_kept xs ys zs e [] s = refl
  plain_kept xs ys zs e (x ∷ es) s = ap₂ (λ p q. p || q) (ap (λ l. active_plain env flag_of l x) e ∙ go (eqb x.origin 1) refl) (plain_kept xs ys zs e es s.1)
    where
      f : ℕ
      f = flag_of x.from

      go : (t : Bool) → eqb x.origin 1 ≡ t
          → cond t (on env (xs ++ zs) f && on env (xs ++ zs) x.condition) (on env (xs ++ zs) f) ≡ cond t (on env xs f && on env xs x.condition) (on env xs f)
      go true o = rw (value_kept env xs zs f s.0.flag.place, value_kept env xs zs x.condition (s.0.condition (eqb-true _ _ o)).place)
      go false o = rw (value_kept env xs zs f s.0.flag.place)

  active_plain_lem : (xs : List (Op ℕ)) → EdgeReady env flag_of b k xs → (at : ℕ) (es : List (Edge ℕ)) → AllSound env flag_of k xs es → NoSyscall es → (flow : ℕ) → flow < length xs
      → any_active env flag_of b k xs at es flow ≡ any (active_plain env flag_of xs) es
  unfolding any_active
  active_plain_lem xs r at [] s n flow hf = refl
  active_plain_lem xs r at (x ∷ es) s n flow hf =
      let one = edge env flag_of b k xs r at x s.0 flow hf in
      let y = pushed xs (from_edge b k flag_of at x flow) in
      let head : active_edge env flag_of k xs x ≡ active_plain env flag_of xs x = rw (ne_eqb x.origin 2 n.0) in
      ap₂ (λ p q. p || q) head
      (active_plain_lem y.state (ready_kept env flag_of b k one.more one.extends r) (at + length (edge_name x.origin x.from)) es (sound_kept env flag_of b k xs y.state one.more one.extends es s.1) n.1 y.value one.place
      ∙ plain_kept xs y.state one.more one.extends es s.1)

pub plain_means : PlainMeans
plain_means env xs b k flag_of registers dynamics at es flow g n s o hf =
    join_means env xs b k flag_of registers dynamics at es [] flow g n s tt hf
    ∙ ap (λ t. t || on env xs flow) (or-false _ ∙ active_plain_lem env flag_of b k xs (record { given = g; none = n }) at es s o flow hf)
