-- The lines of a join meet the sort rule, and its flow is a Bit. Assumes nothing.
use Prim.Native.Nat.{ℕ, ◌+◌}
use native.Mathlib.Omega.{arith}
use native.Mathlib.Nat.{add-zero}
use mathlib.Core.Path.{◌≡◌, refl, sym, ◌∙◌, ap, subst}
use mathlib.Core.Bool.{Bool, true, false, cond, ◌&&◌, ◌||◌}
use mathlib.Core.List.{List, [], ◌∷◌, ◌++◌, append_assoc, append-nil}
use borrow.Author.Tests.{eqb-true}
use lib.Dec.{T, eqb}
use lib.ListN.{length, get_or, get_or-append}
use lib.Seq.{get_or-append-add}
use Rattle.btor2.specs.declared.Name.{Name}
use Rattle.btor2.specs.declared.NodeType.{NodeType}
use Rattle.btor2.specs.declared.NodeType.TheVariants.{Bit as B1, Word as W}
use Rattle.btor2.specs.Op.{Op, map_op, ite, eq, and, state_init, next, unknown, carried}
use Rattle.btor2.specs.SortRule.{Mark, Judged, has_sort, is, rule, is_state_op, judge, no_line, judged, all_right, meets_sort_rule}
use Rattle.btor2.proofs.LineIs.{line_is}
use Rattle.btor2.specs.Walk.{walk}
use Rattle.btor2.proofs.Walk.{walk-append}
use Rattle.btor2.proofs.SortRule.{mark_at_lem, mark_line, line_kept}
use Rattle.builder.specs.Prog.{done, ◌>>=◌, Run, ran}
use Rattle.builder.specs.OneLine.{new_ite}
use Rattle.builder.proofs.Exec.{exec-bind}
use Rattle.meaning.proofs.Behind.{inside}
use Rattle.join.specs.ControlFlow.{Bits, Kernel, control_flow_from_any, control_flow_from_regular, control_flow_from_branch, control_flow_from_ecall, control_flow_from_jalr}
use Rattle.join.specs.Program.{Edge, Dispatch, from_edge, join_edges, join_dispatches, join_address}
use Rattle.join.specs.FlagName.{name_at}
use Rattle.join.specs.Program.{edge_name}
use Rattle.join_laws.specs.Push.{push, pushed}
use Rattle.join_laws.proofs.Pushed.{longer}

both : (a b : Bool) → T a → T b → T (a && b)
both true b h k = k
both false b h k = h

left : (a b : Bool) → T a → T (a || b)
left true b h = tt
left false b h = absurd h

right : (a b : Bool) → T b → T (a || b)
right true b h = tt
right false b h = h

right-append : (is js : List Judged) → T (all_right is) → T (all_right js) → T (all_right (is ++ js))
unfolding all_right
right-append [] js h k = k
right-append (i ∷ is) js h k = both i.right _ (Rattle.btor2.proofs.SortRule.both i.right (all_right is) h).0 (right-append is js (Rattle.btor2.proofs.SortRule.both i.right (all_right is) h).1 k)

-- one more line
marks : List (Op ℕ) → ℕ → Mark
marks xs p = (get_or (judged xs) p no_line).mark

sorted_more : (xs : List (Op ℕ)) (o : Op ℕ) → T (meets_sort_rule xs) → T (rule (map_op (marks xs) o)) → T (meets_sort_rule (xs ++ (o ∷ [])))
unfolding meets_sort_rule judged walk judge marks all_right
sorted_more xs o h k =
    subst (λ l. T (all_right l)) (sym (walk-append Judged no_line judge [] xs (o ∷ [])))
    (right-append (walk Judged no_line judge [] xs) _ h
    (both (rule (map_op (λ (j : Judged). j.mark) (map_op (λ p. get_or (walk Judged no_line judge [] xs) p no_line) o))) true (subst (λ (q : Op Mark). T (rule q)) (sym (Rattle.btor2.proofs.Op.map_op-map_op (λ (j : Judged). j.mark) (λ p. get_or (walk Judged no_line judge [] xs) p no_line) o)) k) tt))

mark_is : (s : NodeType) (xs : List (Op ℕ)) (p : ℕ) → T (line_is s xs p) → T (is s (marks xs p))
unfolding marks
mark_is s xs p h = subst T (sym (mark_line s xs p)) h

two_are : (s : NodeType) (xs : List (Op ℕ)) (p q : ℕ) → T (line_is s xs p) → T (line_is s xs q) → T (is s (marks xs p) && is s (marks xs q))
two_are s xs p q hp hq = both (is s (marks xs p)) (is s (marks xs q)) (mark_is s xs p hp) (mark_is s xs q hq)

last_is : (xs : List (Op ℕ)) (o : Op ℕ) → get_or (xs ++ (o ∷ [])) (length xs) unknown ≡ o
last_is xs o = subst (λ j. get_or (xs ++ (o ∷ [])) j unknown ≡ o) (add-zero _) (get_or-append-add xs (o ∷ []) 0 unknown)

kept : (s : NodeType) (xs zs : List (Op ℕ)) (p : ℕ) → T (line_is s xs p) → T (line_is s (xs ++ zs) p)
kept s xs zs p h = subst T (sym (line_kept s xs zs p (inside s xs p h))) h

-- a list that meets the rule, with a Bit at p, which extends another
pub record Ruled (xs : List (Op ℕ)) (r : Run (List (Op ℕ)) ℕ) : Type 0 where
  pub more : List (Op ℕ)
  pub extends : r.state ≡ xs ++ more
  pub sorted : T (meets_sort_rule r.state)
  pub flow : T (line_is B1 r.state r.value)

after : {xs : List (Op ℕ)} (zs : List (Op ℕ)) {r : Run (List (Op ℕ)) ℕ} → Ruled (xs ++ zs) r → Ruled xs r
after {xs} zs u = record { more = zs ++ u.more; extends = u.extends ∙ append_assoc xs zs u.more; sorted = u.sorted; flow = u.flow }

twice : {xs : List (Op ℕ)} {r q : Run (List (Op ℕ)) ℕ} → Ruled xs r → Ruled r.state q → Ruled xs q
twice {xs} u v = record {
  more = u.more ++ v.more;
  extends = v.extends ∙ ap (λ l. l ++ v.more) u.extends ∙ append_assoc xs u.more v.more;
  sorted = v.sorted;
  flow = v.flow;
}

module _ (xs : List (Op ℕ)) (h : T (meets_sort_rule xs)) where
  one_more : (o : Op ℕ) → T (rule (map_op (marks xs) o)) → T (has_sort B1 (carried o)) → Ruled xs (ran (xs ++ (o ∷ [])) (length xs))
  unfolding line_is
  one_more o k c = record { more = o ∷ []; extends = refl; sorted = sorted_more xs o h k; flow = subst (λ q. T (has_sort B1 (carried q))) (sym (last_is xs o)) c }

  any : (b : Bits ℕ) (activate flow : ℕ) → T (line_is B1 xs b.one) → T (line_is B1 xs activate) → T (line_is B1 xs flow) → Ruled xs (pushed xs (control_flow_from_any b activate flow))
  unfolding control_flow_from_any rule map_op carried
  any b activate flow ho ha hf = go (b.is_zero flow)
    where
      go : (t : Bool) → Ruled xs (pushed xs (cond t (done activate) (new_ite B1 activate b.one flow)))
      go true = record { more = []; extends = sym (append-nil xs); sorted = h; flow = ha }
      go false = one_more (ite B1 activate b.one flow) (both (is B1 (marks xs activate)) (is B1 (marks xs b.one) && is B1 (marks xs flow)) (mark_is B1 xs activate ha) (two_are B1 xs b.one flow ho hf)) tt

  and_more : (p q : ℕ) → T (line_is B1 xs p) → T (line_is B1 xs q) → Ruled xs (ran (xs ++ (and B1 p q ∷ [])) (length xs))
  unfolding rule map_op carried
  and_more p q hp hq = one_more (and B1 p q) (two_are B1 xs p q hp hq) tt

  eq_more : (p q : ℕ) → T (line_is W xs p) → T (line_is W xs q) → Ruled xs (ran (xs ++ (eq p q ∷ [])) (length xs))
  unfolding rule map_op carried
  eq_more p q hp hq = one_more (eq p q) (right (is B1 (marks xs p) && is B1 (marks xs q)) (is W (marks xs p) && is W (marks xs q)) (two_are W xs p q hp hq)) tt

  state_more : (p : ℕ) (m : Name) → T (line_is B1 xs p) → Ruled xs (ran (xs ++ (state_init B1 p m ∷ [])) (length xs))
  unfolding rule map_op carried
  state_more p m hp = one_more (state_init B1 p m) (left (is B1 (marks xs p)) false (mark_is B1 xs p hp)) tt

  ite_more : (c p q : ℕ) → T (line_is B1 xs c) → T (line_is B1 xs p) → T (line_is B1 xs q) → Ruled xs (ran (xs ++ (ite B1 c p q ∷ [])) (length xs))
  unfolding rule map_op carried
  ite_more c p q hc hp hq = one_more (ite B1 c p q) (both (is B1 (marks xs c)) (is B1 (marks xs p) && is B1 (marks xs q)) (mark_is B1 xs c hc) (two_are B1 xs p q hp hq)) tt

  -- a Next is no value line
  next_more : (p q : ℕ) → T (marks xs p).is_state → T (line_is B1 xs p) → T (line_is B1 xs q) → T (meets_sort_rule (xs ++ (next B1 p q ∷ [])))
  unfolding rule map_op
  next_more p q hs hp hq = sorted_more xs (next B1 p q) h (both (marks xs p).is_state (is B1 (marks xs p) && is B1 (marks xs q)) hs (two_are B1 xs p q hp hq))

-- the State's mark, after whatever
state_mark : (xs zs : List (Op ℕ)) (p : ℕ) (m : Name) → T (marks ((xs ++ (state_init B1 p m ∷ [])) ++ zs) (length xs)).is_state
unfolding marks is_state_op
state_mark xs zs p m =
    subst (λ (k : Mark). T k.is_state) (sym (mark_at_lem ((xs ++ (state_init B1 p m ∷ [])) ++ zs) (length xs)))
    (subst (λ q. T (is_state_op q)) (sym (get_or-append (xs ++ (state_init B1 p m ∷ [])) zs unknown (length xs) (rw (longer xs (state_init B1 p m)) (omega arith)) ∙ last_is xs (state_init B1 p m))) tt)

-- ---- the five functions

module _ (b : Bits ℕ) (k : Kernel ℕ) where
  pub record Nodes (xs : List (Op ℕ)) : Type 0 where
    pub sorted : T (meets_sort_rule xs)
    pub zero : T (line_is B1 xs b.zero)
    pub one : T (line_is B1 xs b.one)
    pub mode : T (line_is B1 xs k.mode)
    pub none : T (line_is B1 xs k.none)

  nodes_kept : {xs : List (Op ℕ)} (zs : List (Op ℕ)) → Nodes xs → T (meets_sort_rule (xs ++ zs)) → Nodes (xs ++ zs)
  nodes_kept {xs} zs n s = record { sorted = s; zero = kept B1 xs zs b.zero n.zero; one = kept B1 xs zs b.one n.one; mode = kept B1 xs zs k.mode n.mode; none = kept B1 xs zs k.none n.none }

  module _ (xs : List (Op ℕ)) (n : Nodes xs) (flow : ℕ) (hf : T (line_is B1 xs flow)) where
    regular : (flag : ℕ) → T (line_is B1 xs flag) → Ruled xs (pushed xs (control_flow_from_regular b flag flow))
    unfolding control_flow_from_regular
    regular flag h = any xs n.sorted b flag flow n.one h hf

    anded : (p q : ℕ) → T (line_is B1 xs p) → T (line_is B1 xs q) → Ruled xs (pushed (xs ++ (and B1 p q ∷ [])) (control_flow_from_any b (length xs) flow))
    anded p q hp hq =
        let u = and_more xs n.sorted p q hp hq in
        let zs = and B1 p q ∷ [] in
        after zs (any (xs ++ zs) u.sorted b (length xs) flow (kept B1 xs zs b.one n.one) u.flow (kept B1 xs zs flow hf))

    branched : (flag condition : ℕ) → T (line_is B1 xs flag) → T (line_is B1 xs condition) → Ruled xs (pushed xs (control_flow_from_branch b flag condition flow))
    unfolding control_flow_from_branch ◌>>=◌
    branched flag condition h c = anded flag condition h c

  module _ (xs : List (Op ℕ)) (n : Nodes xs) (flow : ℕ) (hf : T (line_is B1 xs flow)) where
    jumped : (register dynamic pc : ℕ) → T (line_is W xs register) → T (line_is B1 xs dynamic) → T (line_is W xs pc) → Ruled xs (pushed xs (control_flow_from_jalr b register dynamic pc flow))
    unfolding control_flow_from_jalr ◌>>=◌
    jumped register dynamic pc hr hd hp =
        let zs = eq register pc ∷ [] in
        let u = eq_more xs n.sorted register pc hr hp in
        after zs (anded (xs ++ zs) (nodes_kept zs n u.sorted) flow (kept B1 xs zs flow hf) dynamic (length xs) (kept B1 xs zs dynamic hd) u.flow)

    called : (flag : ℕ) (name : Name) → T (line_is B1 xs flag) → Ruled xs (pushed xs (control_flow_from_ecall b k flag name flow))
    unfolding control_flow_from_ecall ◌>>=◌
    called flag name h =
        let s = state_init B1 b.zero name ∷ [] in
        let u1 = state_more xs n.sorted b.zero name n.zero in
        let x1 = xs ++ s in
        let n1 = nodes_kept s n u1.sorted in
        let i = ite B1 (length xs) k.mode flag ∷ [] in
        let u2 = ite_more x1 n1.sorted (length xs) k.mode flag u1.flow n1.mode (kept B1 xs s flag h) in
        let x2 = x1 ++ i in
        let n2 = nodes_kept i n1 u2.sorted in
        let z = next B1 (length xs) (length x1) ∷ [] in
        let its = kept B1 x1 i (length xs) u1.flow in
        let s3 = next_more x2 n2.sorted (length xs) (length x1) (state_mark xs i b.zero name) its u2.flow in
        let n3 = nodes_kept z n2 s3 in
        after s (after i (after z
        (anded (x2 ++ z) n3 flow (kept B1 x2 z flow (kept B1 x1 i flow (kept B1 xs s flow hf))) (length xs) k.none (kept B1 x2 z (length xs) its) n3.none)))

  -- ---- all edges and dispatches

  module _ (flag_of : ℕ → ℕ) where
    pub record EdgeSorts (xs : List (Op ℕ)) (x : Edge ℕ) : Type 0 where
      pub flag : T (line_is B1 xs (flag_of x.from))
      pub condition : x.origin ≡ 1 → T (line_is B1 xs x.condition)

    abbrev pub AllSorts : List (Op ℕ) → List (Edge ℕ) → Type 0
    AllSorts xs [] = Unit {0}
    AllSorts xs (x ∷ es) = EdgeSorts xs x × AllSorts xs es

    sorts_kept : (xs ys zs : List (Op ℕ)) → ys ≡ xs ++ zs → (es : List (Edge ℕ)) → AllSorts xs es → AllSorts ys es
    sorts_kept xs ys zs e [] s = s
    sorts_kept xs ys zs e (x ∷ es) s = (
      subst (λ l. EdgeSorts l x) (sym e) (record { flag = kept B1 xs zs (flag_of x.from) s.0.flag; condition = λ o. kept B1 xs zs x.condition (s.0.condition o) }),
      sorts_kept xs ys zs e es s.1,
    )

    edge : (xs : List (Op ℕ)) → Nodes xs → (at : ℕ) (x : Edge ℕ) → EdgeSorts xs x → (flow : ℕ) → T (line_is B1 xs flow) → Ruled xs (pushed xs (from_edge b k flag_of at x flow))
    unfolding from_edge
    edge xs n at x s flow hf = go (eqb x.origin 1) (eqb x.origin 2) refl
      where
        f : ℕ
        f = flag_of x.from

        go : (t u : Bool) → eqb x.origin 1 ≡ t
            → Ruled xs (pushed xs (cond t (control_flow_from_branch b f x.condition flow) (cond u (control_flow_from_ecall b k f (name_at at x.from) flow) (control_flow_from_regular b f flow))))
        go true u e = branched xs n flow hf f x.condition s.flag (s.condition (eqb-true _ _ e))
        go false true e = called xs n flow hf f (name_at at x.from) s.flag
        go false false e = regular xs n flow hf f s.flag

    nodes_by : {xs : List (Op ℕ)} {r : Run (List (Op ℕ)) ℕ} → Nodes xs → Ruled xs r → Nodes r.state
    nodes_by {xs} {r} n u = subst (λ l. Nodes l) (sym u.extends) (nodes_kept u.more n (subst (λ l. T (meets_sort_rule l)) u.extends u.sorted))

    edges : (xs : List (Op ℕ)) → Nodes xs → (at : ℕ) (es : List (Edge ℕ)) → AllSorts xs es → (flow : ℕ) → T (line_is B1 xs flow) → Ruled xs (pushed xs (join_edges b k flag_of at es flow))
    unfolding join_edges
    edges xs n at [] s flow hf = record { more = []; extends = sym (append-nil xs); sorted = n.sorted; flow = hf }
    edges xs n at (x ∷ es) s flow hf =
        let u = edge xs n at x s.0 flow hf in
        let y = pushed xs (from_edge b k flag_of at x flow) in
        subst (λ q. Ruled xs q) (sym (exec-bind push (from_edge b k flag_of at x flow) (λ f. join_edges b k flag_of (at + length (edge_name x.origin x.from)) es f) xs))
        (twice u (edges y.state (nodes_by n u) (at + length (edge_name x.origin x.from)) es (sorts_kept xs y.state u.more u.extends es s.1) y.value u.flow))

    module _ (registers dynamics : ℕ → ℕ) where
      pub record DispatchSorts (xs : List (Op ℕ)) (x : Dispatch ℕ) : Type 0 where
        pub register : T (line_is W xs (registers x.register))
        pub dynamic : T (line_is B1 xs (dynamics x.register))
        pub address : T (line_is W xs x.address)

      abbrev pub AllDispatched : List (Op ℕ) → List (Dispatch ℕ) → Type 0
      AllDispatched xs [] = Unit {0}
      AllDispatched xs (x ∷ ds) = DispatchSorts xs x × AllDispatched xs ds

      dispatched_kept : (xs ys zs : List (Op ℕ)) → ys ≡ xs ++ zs → (ds : List (Dispatch ℕ)) → AllDispatched xs ds → AllDispatched ys ds
      dispatched_kept xs ys zs e [] s = s
      dispatched_kept xs ys zs e (x ∷ ds) s = (
        subst (λ l. DispatchSorts l x) (sym e) (record {
          register = kept W xs zs (registers x.register) s.0.register;
          dynamic = kept B1 xs zs (dynamics x.register) s.0.dynamic;
          address = kept W xs zs x.address s.0.address;
        }),
        dispatched_kept xs ys zs e ds s.1,
      )

      dispatches : (xs : List (Op ℕ)) → Nodes xs → (ds : List (Dispatch ℕ)) → AllDispatched xs ds → (flow : ℕ) → T (line_is B1 xs flow) → Ruled xs (pushed xs (join_dispatches b registers dynamics ds flow))
      unfolding join_dispatches
      dispatches xs n [] s flow hf = record { more = []; extends = sym (append-nil xs); sorted = n.sorted; flow = hf }
      dispatches xs n (x ∷ ds) s flow hf =
          let p = control_flow_from_jalr b (registers x.register) (dynamics x.register) x.address flow in
          let u = jumped xs n flow hf (registers x.register) (dynamics x.register) x.address s.0.register s.0.dynamic s.0.address in
          let y = pushed xs p in
          subst (λ q. Ruled xs q) (sym (exec-bind push p (λ f. join_dispatches b registers dynamics ds f) xs))
          (twice u (dispatches y.state (nodes_by n u) ds (dispatched_kept xs y.state u.more u.extends ds s.1) y.value u.flow))

      -- the whole join
      pub joined : (xs : List (Op ℕ)) → Nodes xs → (at : ℕ) (es : List (Edge ℕ)) (ds : List (Dispatch ℕ)) → AllSorts xs es → AllDispatched xs ds → (flow : ℕ) → T (line_is B1 xs flow)
          → Ruled xs (pushed xs (join_address b k flag_of registers dynamics at es ds flow))
      unfolding join_address
      joined xs n at es ds s d flow hf =
          let p = join_edges b k flag_of at es flow in
          let u = edges xs n at es s flow hf in
          let y = pushed xs p in
          subst (λ q. Ruled xs q) (sym (exec-bind push p (λ f. join_dispatches b registers dynamics ds f) xs))
          (twice u (dispatches y.state (nodes_by n u) ds (dispatched_kept xs y.state u.more u.extends ds d) y.value u.flow))
