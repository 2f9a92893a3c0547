-- An accepted join: its lines stand after the others, and its flow means what it should. Assumes nothing.
use Rattle.std.specs.Prelude.{None}
use Prim.Native.Nat.{ℕ, zero, suc, ◌+◌, ◌-◌, ◌≤◌, ◌<◌}
use native.Mathlib.Omega.{arith}
use native.Mathlib.Nat.{add-zero}
use mathlib.Core.Path.{◌≡◌, refl, sym, ◌∙◌, ap, subst}
use mathlib.Core.Bool.{false, ◌||◌}
use mathlib.Core.List.{List, [], ◌∷◌, ◌++◌, map}
use borrow.Author.Tests.{ltb-false, eqb-true, eqb-false, not-false, eq-eqb}
use lib.Dec.{T, eqb, ltb}
use lib.ListN.{length, get_or, drop}
use lib.Seq.{length-sets}
use Rattle.bitvec.proofs.Truth.{neither}
use Rattle.btor2.specs.declared.NodeType.TheVariants.{Bit as B1, Word as W}
use Rattle.btor2.specs.Op.{Op}
use Rattle.btor2.specs.SortRule.{meets_sort_rule}
use Rattle.btor2.proofs.LineIs.{line_is}
use Rattle.btor2.specs.Value.{Env}
use Rattle.btor2.proofs.Range.{value_fits}
use Rattle.btor2.proofs.SortRule.{line_kept}
use Rattle.btor2_list.specs.Record.{capacity, words_for}
use Rattle.btor2_list.specs.View.{view}
use Rattle.btor2_list.proofs.Stored.{below, above}
use Rattle.builder.specs.declared.Tally.{Tally}
use Rattle.builder.specs.Append.{Store, at, append}
use Rattle.builder.specs.Prog.{Prog, Run, ran, exec}
use Rattle.state.specs.Roles.{role, role_count, register_node}
use Rattle.riscv.specs.Format.{last_register}
use Rattle.state.specs.RolesFit.{roles_fit}
use Rattle.edges.specs.Edges.{branch_origin, syscall_origin}
use Rattle.btor2_list.specs.Limits.{most_lines}
use Rattle.builder.specs.Lines.{lines_of, place_after}
use Rattle.lowering_laws.specs.Lines.{numbered, taking}
use Rattle.lowering_laws.specs.Elsewhere.{Elsewhere}
use Rattle.lowering_laws.proofs.Laid.{RoomForLines, Laid, laid, taking_most}
use Rattle.meaning.specs.Lines.{operators}
use Rattle.meaning.proofs.Behind.{inside}
use Rattle.roles_kept.proofs.Views.{operators-length, numbered_operators, map-append, look_is}
use Rattle.roles_kept.proofs.RoleSets.{Fit, fit_given, given_fit, fit_node}
use Rattle.join.specs.Program.{Edge, Dispatch}
use Rattle.btor2_list.specs.Records.{records_in}
use Rattle.list_check.specs.Lines.{any}
use Rattle.join.specs.Given.{dynamic_count, dynamics_in, dynamic_for, no_flag}
use Rattle.join.specs.ControlFlow.{Bits, Kernel}
use Rattle.join.specs.Listed.{Listed, append_listed}
use Rattle.join.specs.Program.{names_of}
use Rattle.join.proofs.Lists.{forgets}
use Rattle.join.specs.declared.JoinHeld.{JoinHeld}
use Rattle.join.specs.Refusal.{JoinLent, JoinInput, edges_of, dispatches_of, flags_of, flag_of, bits_in, kernel_in, join_program, bit_out, word_out, unflagged, entry_out, flags_out, edge_out, dispatch_out, join_line_count, join_room_out, join_refusal}
use Rattle.join.specs.Join.{join_store, join_settled, joining}
use Rattle.join.proofs.Numbers.{Passed, passed}
use Rattle.join_laws.specs.Push.{pushed}
use Rattle.join_laws.specs.Active as Act
use Rattle.join_laws.proofs.Sound as Sd
use Rattle.join_laws.specs.Means.{ZeroAndOne, AcceptedJoin, JoinsMean}
use Rattle.join_laws.proofs.Pushed.{pushed_lines}
use Rattle.join_laws.proofs.Edges.{join_means, plain_means}
use Rattle.join_laws.proofs.Sequentials.{listed_else}
use Rattle.join_laws.proofs.Fit.{fit_lines, joined}
use Rattle.join_laws.proofs.Sorts as S

-- ---- a run by the append, as a run on the lines

pub laid_pushed : {X : Type 0} (p : Prog ℕ X) (m : ℕ) (ws : List ℕ) (t : Tally) (r : Run Store X) → Laid None t.lines 0 m ws t p r
    → ran (operators r.state.words r.state.tally.lines) r.value ≡ pushed (operators ws t.lines) p
unfolding operators
laid_pushed {X} p m ws t r l =
    ap (λ (v : List _). ran (map (λ line. line.op) v) r.value) l.nodes
    ∙ ap (λ v. ran v r.value) (map-append (view ws t.lines) (numbered None t.nid L) ∙ ap (λ os. xs ++ os) (numbered_operators None t.nid L))
    ∙ ap (λ x. ran (xs ++ L) x) l.value
    ∙ sym (pushed_lines p xs t.lines 0 (operators-length ws t.lines ∙ sym (add-zero _)))
  where
    L : List (Op ℕ)
    L = lines_of (place_after t.lines) 0 p

    xs : List (Op ℕ)
    xs = map (λ line. line.op) (view ws t.lines)

-- ---- the dynamic flags

one_in : (ws : List ℕ) (n k : ℕ) (ds : List ℕ) → any (bit_out ws n) (records_in 1 (λ rest. get_or rest 0 no_flag) k ds) ≡ false → (i : ℕ) → i < k → bit_out ws n (get_or ds i no_flag) ≡ false
unfolding records_in
one_in ws n zero ds o i h = absurd (omega arith)
one_in ws n (suc k) ds o zero h = (neither (bit_out ws n (get_or ds 0 no_flag)) _ o).0
one_in ws n (suc k) ds o (suc i) h = next ds (one_in ws n k (drop 1 ds) (neither (bit_out ws n (get_or ds 0 no_flag)) _ o).1 i (omega arith))
  where
    next : (ds : List ℕ) → bit_out ws n (get_or (drop 1 ds) i no_flag) ≡ false → bit_out ws n (get_or ds (suc i) no_flag) ≡ false
    next [] q = q
    next (d ∷ ds) q = q

dynamic_in : (ws : List ℕ) (n : ℕ) (ds : List ℕ) → any (bit_out ws n) (dynamics_in ds) ≡ false → (r : ℕ) → eqb r 0 ≡ false → r ≤ last_register → bit_out ws n (dynamic_for ds r) ≡ false
dynamic_in ws n ds o r z m = let more : r ≡ 0 → ⊥ = eqb-false r 0 z in rw z (one_in ws n dynamic_count ds o (r - 1) (omega (arith, more)))

module _ (l : JoinLent) (h : JoinHeld) (g : JoinInput) (e : join_refusal l h g ≡ 0) where
  abbrev lines : ℕ
  lines = h.state.tally.lines

  its : Passed l h g
  its = passed l h g e

  pub held : words_for lines ≤ length l.list
  held = omega (arith, its.counts.held)

  -- the lines fit
  pub room : RoomForLines l.list h.state.tally (join_line_count h.state g) (taking (lines_of (place_after lines) 0 (join_program h.state g)))
  unfolding join_room_out join_line_count
  room =
      let p = neither (ltb most_lines (lines + join_line_count h.state g)) _ its.room in
      let q = neither (ltb (capacity (length l.list)) (lines + join_line_count h.state g)) _ p.1 in
      record {
        lines = ltb-false (capacity (length l.list)) (lines + join_line_count h.state g) q.0;
        nids = omega (arith, its.counts.nids, ltb-false most_lines (lines + join_line_count h.state g) p.0, taking_most (lines_of (place_after lines) 0 (join_program h.state g)));
      }

  pub its_run : Laid None lines 0 (join_line_count h.state g) l.list h.state.tally (join_program h.state g) (exec append (at l.list h.state.tally) (join_program h.state g))
  unfolding join_line_count join_program
  its_run =
      laid None (join_program h.state g) lines 0 l.list h.state.tally (sym (add-zero _)) room
      (fit_lines (joined (bits_in h.state) (kernel_in g) (flag_of g) (λ r. (register_node h.state.roles r).0) (dynamic_for g.dynamics) h.state.counts.names (edges_of g) (dispatches_of g) g.asked.flow.0) (place_after lines) 0)

-- an accepted join's lines, whatever the lines before are
module _ (l : JoinLent) (h : JoinHeld) (g : JoinInput) (e : join_refusal l h g ≡ 0) where
  abbrev its_lines : List (Op ℕ)
  its_lines = lines_of (place_after (lines l h g e)) 0 (join_program h.state g)

  its_store : ran (exec append_listed (join_store l h) (join_program h.state g)).state.store (exec append_listed (join_store l h) (join_program h.state g)).value ≡ exec append (at l.list h.state.tally) (join_program h.state g)
  its_store = forgets (join_program h.state g) (join_store l h)

  pub nodes_after : view (joining l h g).lent.list (joining l h g).held.state.tally.lines ≡ view l.list h.state.tally.lines ++ numbered None h.state.tally.nid its_lines
  unfolding joining join_settled
  nodes_after = rw (eq-eqb (join_refusal l h g) 0 e)
      (subst (λ (r : Run Store ℕ). view r.state.words r.state.tally.lines ≡ view l.list h.state.tally.lines ++ numbered None h.state.tally.nid its_lines) (sym its_store) (its_run l h g e).nodes)

  pub stored_after : words_for (joining l h g).held.state.tally.lines ≤ length (joining l h g).lent.list
  unfolding joining join_settled
  stored_after = rw (eq-eqb (join_refusal l h g) 0 e)
      (subst (λ (r : Run Store ℕ). words_for r.state.tally.lines ≤ length r.state.words) (sym its_store) (rw ((its_run l h g e).lines, (its_run l h g e).size) (omega (arith, (room l h g e).lines))))

module _ (l : JoinLent) (h : JoinHeld) (g : JoinInput) (sorted : T (meets_sort_rule (operators l.list h.state.tally.lines))) (given : length h.state.roles ≡ role_count) (e : join_refusal l h g ≡ 0) where
  abbrev n : ℕ
  n = h.state.tally.lines

  abbrev xs : List (Op ℕ)
  xs = operators l.list n

  -- the parts of its program
  abbrev its_bits : Bits ℕ
  its_bits = bits_in h.state

  abbrev its_kernel : Kernel ℕ
  its_kernel = kernel_in g

  abbrev flag_at : ℕ → ℕ
  flag_at = flag_of g

  abbrev node_at : ℕ → ℕ
  node_at r = (register_node h.state.roles r).0

  abbrev dynamic_at : ℕ → ℕ
  dynamic_at = dynamic_for g.dynamics

  abbrev begun : ℕ
  begun = g.asked.flow.0

  -- ---- what it refers to

  is_bit : (p : ℕ) → bit_out l.list n p ≡ false → T (line_is B1 xs p)
  is_bit p o = look_is l.list n (held l h g e) p B1 (eqb-true _ _ (not-false _ o))

  is_word : (p : ℕ) → word_out l.list n p ≡ false → T (line_is W xs p)
  is_word p o = look_is l.list n (held l h g e) p W (eqb-true _ _ (not-false _ o))

  fit : Fit xs h.state.roles
  fit = fit_given l.list n h.state.roles (held l h g e) given (subst T (sym (not-false (roles_fit l.list n 0 h.state.roles) (its l h g e).roles)) tt)

  -- and so they do on a longer list
  fit_after : (ys more : List (Op ℕ)) → ys ≡ xs ++ more → Fit ys h.state.roles
  unfolding Fit
  fit_after ys more q j m = rw q (subst T (sym (line_kept _ xs more (role h.state.roles j).0 (inside _ xs _ (fit j m)))) (fit j m))

  its_node : (r : ℕ) → T (line_is W xs (register_node h.state.roles r).0)
  its_node = fit_node xs h.state.roles fit

  its_bit : (j : ℕ) → j < 2 → T (line_is B1 xs (role h.state.roles j).0)
  unfolding Fit
  its_bit zero m = fit 0 (omega arith)
  its_bit (suc zero) m = fit 1 (omega arith)
  its_bit (suc (suc j)) m = absurd (omega arith)

  -- ---- edges and dispatches that 15 and 16 do not refuse

  record EdgesIn (x : Edge ℕ) (es : List (Edge ℕ)) : Type 0 where
    flag : bit_out l.list n (flag_at x.from) ≡ false
    condition : x.origin ≡ branch_origin → bit_out l.list n x.condition ≡ false
    flags : any (unflagged l.list n flag_at) es ≡ false
    rest : any (edge_out l.list n) es ≡ false

  edges_in_lem : (x : Edge ℕ) (es : List (Edge ℕ)) → any (unflagged l.list n flag_at) (x ∷ es) ≡ false → any (edge_out l.list n) (x ∷ es) ≡ false → EdgesIn x es
  edges_in_lem x es u o =
      let a = neither (bit_out l.list n (flag_at x.from)) _ u in
      let c = neither (edge_out l.list n x) _ o in
      let d = neither (ltb syscall_origin x.origin) _ c.0 in
      record { flag = a.0; condition = λ q. rw (eq-eqb x.origin branch_origin q) at d.1; flags = a.1; rest = c.1 }

  record DispatchesIn (x : Dispatch ℕ) (ds : List (Dispatch ℕ)) : Type 0 where
    dynamic : bit_out l.list n (dynamic_at x.register) ≡ false
    address : word_out l.list n x.address ≡ false
    rest : any (dispatch_out l.list n) ds ≡ false

  dispatches_in_lem : (x : Dispatch ℕ) (ds : List (Dispatch ℕ)) → any (dispatch_out l.list n) (x ∷ ds) ≡ false → any (bit_out l.list n) (dynamics_in g.dynamics) ≡ false → DispatchesIn x ds
  dispatches_in_lem x ds o d =
      let a = neither (dispatch_out l.list n x) _ o in
      let b = neither (eqb x.register 0) _ a.0 in
      let c = neither (ltb last_register x.register) _ b.1 in
      record { dynamic = dynamic_in l.list n g.dynamics d x.register b.0 (ltb-false 31 x.register c.0); address = c.1; rest = a.1 }

  -- ---- the sort rule

  sorts : (es : List (Edge ℕ)) → any (unflagged l.list n flag_at) es ≡ false → any (edge_out l.list n) es ≡ false → S.AllSorts its_bits its_kernel flag_at xs es
  sorts [] u o = tt
  sorts (x ∷ es) u o =
      let i = edges_in_lem x es u o in
      (record { flag = is_bit (flag_at x.from) i.flag; condition = λ q. is_bit x.condition (i.condition q) }, sorts es i.flags i.rest)

  dispatch_sorts : (ds : List (Dispatch ℕ)) → any (dispatch_out l.list n) ds ≡ false → any (bit_out l.list n) (dynamics_in g.dynamics) ≡ false
      → S.AllDispatched its_bits its_kernel flag_at node_at dynamic_at xs ds
  dispatch_sorts [] o d = tt
  dispatch_sorts (x ∷ ds) o d =
      let i = dispatches_in_lem x ds o d in
      (record { register = its_node x.register; dynamic = is_bit (dynamic_at x.register) i.dynamic; address = is_word x.address i.address }, dispatch_sorts ds i.rest d)

  pub record Flagged : Type 0 where
    pub edges : any (unflagged l.list n flag_at) (edges_of g) ≡ false
    pub mode : bit_out l.list n g.asked.mode.0 ≡ false
    pub none : bit_out l.list n g.asked.none.0 ≡ false
    pub dynamics : any (bit_out l.list n) (dynamics_in g.dynamics) ≡ false
    pub flow : bit_out l.list n begun ≡ false

  flagged : Flagged
  unfolding flags_out
  flagged =
      let f1 = neither (any (unflagged l.list n flag_at) (edges_of g)) _ (its l h g e).flags in
      let f2 = neither (any (entry_out l.list n) (flags_of g)) _ f1.1 in
      let f3 = neither (bit_out l.list n g.asked.mode.0) _ f2.1 in
      let f4 = neither (bit_out l.list n g.asked.none.0) _ f3.1 in
      let f5 = neither (any (bit_out l.list n) (dynamics_in g.dynamics)) _ f4.1 in
      record { edges = f1.0; mode = f3.0; none = f4.0; dynamics = f5.0; flow = f5.1 }

  ruled : S.Ruled xs (pushed xs (join_program h.state g))
  unfolding join_program
  ruled =
      S.joined its_bits its_kernel flag_at node_at dynamic_at xs
      (record { sorted = sorted; zero = its_bit 0 (omega arith); one = its_bit 1 (omega arith); mode = is_bit g.asked.mode.0 flagged.mode; none = is_bit g.asked.none.0 flagged.none })
      h.state.counts.names (edges_of g) (dispatches_of g) (sorts (edges_of g) flagged.edges (its l h g e).edges) (dispatch_sorts (dispatches_of g) (its l h g e).dispatches flagged.dynamics) begun (is_bit begun flagged.flow)

  -- the lines after it
  as_pushed : (full : Run Listed ℕ) → ran full.state.store full.value ≡ exec append (at l.list h.state.tally) (join_program h.state g)
      → ran (operators full.state.store.words full.state.store.tally.lines) full.value ≡ pushed xs (join_program h.state g)
  as_pushed full forgot =
      ap (λ (r : Run Store ℕ). ran (operators r.state.words r.state.tally.lines) r.value) forgot
      ∙ laid_pushed (join_program h.state g) (join_line_count h.state g) l.list h.state.tally _ (its_run l h g e)

  module _ (env : Env) where
    bit : (p : ℕ) → bit_out l.list n p ≡ false → Sd.Bit env xs p
    bit p o = record { place = inside B1 xs p (is_bit p o); bound = (value_fits env xs sorted B1 p (is_bit p o)).bits tt }

    sound : (es : List (Edge ℕ)) → any (unflagged l.list n flag_at) es ≡ false → any (edge_out l.list n) es ≡ false → Sd.AllSound env flag_at its_kernel xs es
    sound [] u o = tt
    sound (x ∷ es) u o =
        let i = edges_in_lem x es u o in
        (record { flag = bit (flag_at x.from) i.flag; condition = λ q. bit x.condition (i.condition q) }, sound es i.flags i.rest)

    reached : (ds : List (Dispatch ℕ)) → any (dispatch_out l.list n) ds ≡ false → any (bit_out l.list n) (dynamics_in g.dynamics) ≡ false
        → Sd.AllReached env node_at dynamic_at xs ds
    reached [] o d = tt
    reached (x ∷ ds) o d =
        let i = dispatches_in_lem x ds o d in (
          record {
            dynamic = bit (dynamic_at x.register) i.dynamic;
            register = inside W xs (register_node h.state.roles x.register).0 (its_node x.register);
            address = inside W xs x.address (is_word x.address i.address);
          },
          reached ds i.rest d,
        )

  -- what its values rest on
  module _ (env : Env) (z : ZeroAndOne env l h) where
    bits : Sd.KnownBits env xs its_bits
    bits = record {
      zero = inside B1 xs _ (its_bit 0 (omega arith));
      one = inside B1 xs _ (its_bit 1 (omega arith));
      is_zero = λ p. refl;
      zero_value = z.zero;
      one_value = z.one;
    }

    all_sound : Sd.AllSound env flag_at its_kernel xs (edges_of g)
    all_sound = sound env (edges_of g) flagged.edges (its l h g e).edges

    starts : begun < length xs
    starts = inside B1 xs begun (is_bit begun flagged.flow)

    module _ (full : Run Listed ℕ) (forgot : ran full.state.store full.value ≡ exec append (at l.list h.state.tally) (join_program h.state g)) where
      means_in : Act.on env (operators full.state.store.words full.state.store.tally.lines) full.value
          ≡ ((Act.any_active env flag_at its_bits its_kernel xs h.state.counts.names (edges_of g) begun
          || any (Act.active_dispatch env node_at dynamic_at xs) (dispatches_of g)) || Act.on env xs begun)
      unfolding join_program
      means_in =
          ap (λ (r : Run (List (Op ℕ)) ℕ). Act.on env r.state r.value) (as_pushed full forgot)
          ∙ join_means env xs its_bits its_kernel flag_at node_at dynamic_at h.state.counts.names (edges_of g) (dispatches_of g) begun
          bits (bit env g.asked.none.0 flagged.none) all_sound (reached env (dispatches_of g) (its l h g e).dispatches flagged.dynamics) starts

      plain_in : Act.NoSyscall (edges_of g) → g.asked.dispatches ≡ 0
          → Act.on env (operators full.state.store.words full.state.store.tally.lines) full.value ≡ (any (Act.active_plain env flag_at xs) (edges_of g) || Act.on env xs begun)
      unfolding join_program records_in
      plain_in o d =
          ap (λ (r : Run (List (Op ℕ)) ℕ). Act.on env r.state r.value) (as_pushed full forgot)
          ∙ rw d
          (plain_means env xs its_bits its_kernel flag_at node_at dynamic_at h.state.counts.names (edges_of g) begun
          bits (bit env g.asked.none.0 flagged.none) all_sound o starts)

  pub accepted : AcceptedJoin l h g (joining l h g)
  unfolding joining join_settled
  accepted = rw (eq-eqb (join_refusal l h g) 0 e) (record {
    refusal = refl;
    nodes = rw (eq-eqb (join_refusal l h g) 0 e) at (nodes_after l h g e);
    lines = subst (λ (r : Run Store ℕ). r.state.tally.lines ≡ n + join_line_count h.state g) (sym forgot) (its_run l h g e).lines;
    nids = subst (λ (r : Run Store ℕ). r.state.tally.nid ≡ h.state.tally.nid + taking (lines_of (place_after n) 0 (join_program h.state g))) (sym forgot) (its_run l h g e).nids;
    roles = refl;
    list = subst (λ (r : Run Store ℕ). Elsewhere (words_for n) (words_for (n + join_line_count h.state g)) l.list r.state.words) (sym forgot) (record { size = (its_run l h g e).size; below = (its_run l h g e).below; above = (its_run l h g e).above });
    names = record {
      size = length-sets l.names h.state.counts.names (names_of (edges_of g));
      below = λ j q. below (names_of (edges_of g)) l.names h.state.counts.names j q;
      above = λ j q. above (names_of (edges_of g)) l.names h.state.counts.names j q;
    };
    sequentials = (listed_else p (join_store l h)).part;
    fit = given_fit full.state.store.words full.state.store.tally.lines h.state.roles stored_in given (fit_after _ ruled.more extended);
    stored = stored_in;
    more = ruled.more;
    extends = extended;
    sorted = subst (λ (r : Run (List (Op ℕ)) ℕ). T (meets_sort_rule r.state)) (sym (as_pushed full forgot)) ruled.sorted;
    means = λ env z. means_in env z full forgot;
    plain = λ env z o d. plain_in env z full forgot o d;
  })
    where
      p : Prog ℕ ℕ
      p = join_program h.state g

      full : Run Listed ℕ
      full = exec append_listed (join_store l h) p

      forgot : ran full.state.store full.value ≡ exec append (at l.list h.state.tally) p
      forgot = forgets p (join_store l h)

      stored_in : words_for full.state.store.tally.lines ≤ length full.state.store.words
      stored_in = rw (eq-eqb (join_refusal l h g) 0 e) at (stored_after l h g e)

      extended : operators full.state.store.words full.state.store.tally.lines ≡ xs ++ ruled.more
      extended = ap (λ (r : Run (List (Op ℕ)) ℕ). r.state) (as_pushed full forgot) ∙ ruled.extends

pub joins_mean : JoinsMean
joins_mean l h g sorted given e = accepted l h g sorted given e
