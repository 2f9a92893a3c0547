-- The lines of a join, counted. Assumes nothing.
use Prim.Native.Nat.{ℕ, zero, suc, ◌+◌, ◌-◌, ◌*◌, ◌≤◌, ◌<◌, min}
use mathlib.Core.Path.{◌≡◌, refl, sym, ap, ap₂, ◌∙◌}
use mathlib.Core.Bool.{Bool, true, false, cond, ◌&&◌, ◌||◌, and-false, or_assoc}
use mathlib.Core.List.{List, [], ◌∷◌, ◌++◌}
use native.Mathlib.Nat.{add-zero, zero-add}
use native.Mathlib.Omega.{arith}
use borrow.Author.Tests.{ne_eqb, eqb-true, lt-ltb, le-ltb, ltb-true, ltb-false}
use lib.Dec.{eqb, ltb}
use lib.ListN.{length, length-append, drop}
use Rattle.btor2.specs.declared.Name.{Name}
use Rattle.btor2.specs.declared.NodeType.TheVariants.{Bit}
use Rattle.builder.specs.OneLine.{new_ite}
use Rattle.builder.specs.Prog.{Prog, done, line, ◌>>=◌}
use Rattle.builder.specs.Lines.{lines_of, place_after}
use Rattle.builder.proofs.Result.{result_of}
use Rattle.join.specs.ControlFlow.{Bits, Kernel, control_flow_from_any, control_flow_from_regular, control_flow_from_branch, control_flow_from_ecall, control_flow_from_jalr}
use Rattle.join.specs.FlagName.{name_at}
use Rattle.join.specs.Program.{Edge, Dispatch, edge_name, names_of, nexts_of, from_edge, join_edges, join_dispatches, join_address}
use Rattle.btor2_list.specs.Records.{records_in}
use Rattle.join.specs.Given.{dispatches_in, dynamic_for}
use Rattle.join.specs.Refusal.{JoinLent, JoinInput, edges_of, dispatches_of, flag_of, zero_in, bits_in, kernel_in, join_program, join_line_count, join_room_out}
use Rattle.join.specs.declared.JoinHeld.{JoinHeld}
use Rattle.state.specs.declared.State.{State}
use Rattle.btor2_list.specs.Limits.{most_lines}
use Rattle.state.specs.Roles.{register_node}
use Rattle.btor2_list.specs.Record.{capacity}
use Rattle.join_calls.specs.Room.{edge_lines, edges_lines, zero_after, zero_after_all, dispatch_lines, exceeding}
use Rattle.join_calls.specs.Entry.{left_of}
use Rattle.join_calls.proofs.Exceeding.{ltb-add}

on : (k m : ℕ) → k + suc m ≡ k + 1 + m
on k m = omega arith

module _ {A X Y : Type 0} (at : ℕ → A) (g : X → Prog A Y) where
  lines-bind : (p : Prog A X) (k : ℕ) → lines_of at k (p >>= g) ≡ lines_of at k p ++ lines_of at (k + length (lines_of at k p)) (g (result_of at k p))
  unfolding ◌>>=◌ lines_of result_of
  lines-bind (done x) k = rw add-zero
  lines-bind (line o f) k = rw (on k (length (lines_of at (k + 1) (f (at k))))) (ap (λ l. o ∷ l) (lines-bind (f (at k)) (k + 1)))

  result-bind : (p : Prog A X) (k : ℕ) → result_of at k (p >>= g) ≡ result_of at (k + length (lines_of at k p)) (g (result_of at k p))
  unfolding ◌>>=◌ lines_of result_of
  result-bind (done x) k = rw add-zero
  result-bind (line o f) k = rw (on k (length (lines_of at (k + 1) (f (at k))))) (result-bind (f (at k)) (k + 1))

module _ (n z : ℕ) where
  -- the program p, whose first line is the k-th after n others, has so many lines, and gives the zero bit's own place z or not
  record Grows (k : ℕ) (p : Prog ℕ ℕ) (lines : ℕ) (zero : Bool) : Type 0 where
    count : length (lines_of (place_after n) k p) ≡ lines
    result : eqb (result_of (place_after n) k p) z ≡ zero

  module _ {k m m' : ℕ} {t : Bool} {p : Prog ℕ ℕ} (one : Grows k p m t) (g : ℕ → Prog ℕ ℕ) where
    count_after : ((j r : ℕ) → eqb r z ≡ t → length (lines_of (place_after n) j (g r)) ≡ m') → length (lines_of (place_after n) k (p >>= g)) ≡ m + m'
    count_after rest =
        ap length (lines-bind (place_after n) g p k) ∙ length-append (lines_of (place_after n) k p) _ ∙ ap₂ (λ a c. a + c) one.count (rest _ _ one.result)

    after : {t' : Bool} → ((j r : ℕ) → eqb r z ≡ t → Grows j (g r) m' t') → Grows k (p >>= g) (m + m') t'
    after rest = record {
      count = count_after (λ j r e. (rest j r e).count);
      result = ap (λ r. eqb r z) (result-bind (place_after n) g p k) ∙ (rest _ _ one.result).result;
    }

  done_grows : (k x : ℕ) → Grows k (done x) 0 (eqb x z)
  unfolding lines_of result_of
  done_grows k x = record { count = refl; result = refl }

dispatch_more : (t : Bool) (m : ℕ) → 2 + cond t 0 1 + dispatch_lines false m ≡ dispatch_lines t (suc m)
dispatch_more t m = rw (ne_eqb (suc m) 0 (λ e. omega arith)) (go t (eqb m 0) refl)
  where
    go : (t s : Bool) → eqb m 0 ≡ s → 2 + cond t 0 1 + cond s 0 (m * 3) ≡ cond t (suc m * 3 - 1) (suc m * 3)
    go true true e = omega (arith, eqb-true)
    go true false e = omega arith
    go false true e = omega (arith, eqb-true)
    go false false e = omega arith

-- the zero bit's place z is below n, so that no new line has it
module _ (n z : ℕ) (below : z < n) (b : Bits ℕ) (is : (p : ℕ) → b.is_zero p ≡ eqb p z) where
  fresh : (k : ℕ) → eqb (n + k) z ≡ false
  fresh k = ne_eqb (n + k) z (λ e. omega arith)

  any : (k activate flow : ℕ) → Grows n z k (control_flow_from_any b activate flow) (cond (eqb flow z) 0 1) (eqb flow z && eqb activate z)
  unfolding lines_of result_of control_flow_from_any
  any k activate flow = rw (is flow) (go (eqb flow z))
    where
      go : (t : Bool) → Grows n z k (cond t (done activate) (new_ite Bit activate b.one flow)) (cond t 0 1) (t && eqb activate z)
      go true = record { count = refl; result = refl }
      go false = record { count = refl; result = fresh k }

  any_new : (k j flow : ℕ) → Grows n z k (control_flow_from_any b (n + j) flow) (cond (eqb flow z) 0 1) false
  any_new k j flow = rw (fresh j, and-false) at (any k (n + j) flow)

  from_branch : (k flag condition flow : ℕ) → Grows n z k (control_flow_from_branch b flag condition flow) (1 + cond (eqb flow z) 0 1) false
  unfolding ◌>>=◌ lines_of result_of control_flow_from_branch
  from_branch k flag condition flow = let a = any_new (k + 1) k flow in record { count = omega (arith, a.count); result = a.result }

  from_ecall : (k : ℕ) (kernel : Kernel ℕ) (flag : ℕ) (name : Name) (flow : ℕ) → Grows n z k (control_flow_from_ecall b kernel flag name flow) (4 + cond (eqb flow z) 0 1) false
  unfolding ◌>>=◌ lines_of result_of control_flow_from_ecall
  from_ecall k kernel flag name flow = let a = any_new (k + 1 + 1 + 1 + 1) (k + 1 + 1 + 1) flow in record { count = omega (arith, a.count); result = a.result }

  from_jalr : (k register dynamic pc flow : ℕ) → Grows n z k (control_flow_from_jalr b register dynamic pc flow) (2 + cond (eqb flow z) 0 1) false
  unfolding ◌>>=◌ lines_of result_of control_flow_from_jalr
  from_jalr k register dynamic pc flow = let a = any_new (k + 1 + 1) (k + 1) flow in record { count = omega (arith, a.count); result = a.result }

  module _ (kernel : Kernel ℕ) (flag_of : ℕ → ℕ) where
    abbrev clear : ℕ → Bool
    clear a = eqb (flag_of a) z

    from_edge_lem : (k at : ℕ) (x : Edge ℕ) (flow : ℕ)
        → Grows n z k (from_edge b kernel flag_of at x flow) (edge_lines x.origin (eqb flow z)) (zero_after x.origin (eqb flow z) (clear x.from))
    unfolding from_edge control_flow_from_regular
    from_edge_lem k at x flow = go (eqb x.origin 1) (eqb x.origin 2)
      where
        go : (s t : Bool)
            → Grows n z k (cond s (control_flow_from_branch b (flag_of x.from) x.condition flow) (cond t (control_flow_from_ecall b kernel (flag_of x.from) (name_at at x.from) flow) (control_flow_from_any b (flag_of x.from) flow)))
            (cond s 1 (cond t 4 0) + cond (eqb flow z) 0 1) (cond s false (cond t false (eqb flow z && clear x.from)))
        go true t = from_branch k (flag_of x.from) x.condition flow
        go false true = from_ecall k kernel (flag_of x.from) (name_at at x.from) flow
        go false false = rw zero-add (any k (flag_of x.from) flow)

    from_edges : (xs : List (Edge ℕ)) (k at flow : ℕ) → Grows n z k (join_edges b kernel flag_of at xs flow) (edges_lines clear (eqb flow z) xs) (zero_after_all clear (eqb flow z) xs)
    unfolding join_edges edges_lines zero_after_all
    from_edges [] k at flow = done_grows n z k flow
    from_edges (x ∷ xs) k at flow =
        after n z (from_edge_lem k at x flow) _ (λ j r e. rw (← e) (from_edges xs j (at + length (edge_name x.origin x.from)) r))

    module _ (registers dynamics : ℕ → ℕ) where
      from_dispatches : (ds : List (Dispatch ℕ)) (k flow : ℕ) → length (lines_of (place_after n) k (join_dispatches b registers dynamics ds flow)) ≡ dispatch_lines (eqb flow z) (length ds)
      unfolding join_dispatches
      from_dispatches [] k flow = (done_grows n z k flow).count
      from_dispatches (x ∷ ds) k flow =
          count_after n z (from_jalr k (registers x.register) (dynamics x.register) x.address flow) _ (λ j r e. from_dispatches ds j r ∙ ap (λ t. dispatch_lines t (length ds)) e)
          ∙ dispatch_more (eqb flow z) (length ds)

      pub joined : (es : List (Edge ℕ)) (ds : List (Dispatch ℕ)) (k at flow : ℕ)
          → length (lines_of (place_after n) k (join_address b kernel flag_of registers dynamics at es ds flow)) ≡ edges_lines clear (eqb flow z) es + dispatch_lines (zero_after_all clear (eqb flow z) es) (length ds)
      unfolding join_address
      joined es ds k at flow =
          count_after n z (from_edges es k at flow) _ (λ j r e. from_dispatches ds j r ∙ ap (λ t. dispatch_lines t (length ds)) e)

-- ---- the room

dispatches_length : (n : ℕ) (ws : List ℕ) → length (dispatches_in n ws) ≡ n
unfolding records_in
dispatches_length zero ws = refl
dispatches_length (suc n) ws = ap suc (dispatches_length n (drop 2 ws))

ltb-sub : (a b c : ℕ) → b ≤ a → ltb (a - b) c ≡ ltb a (b + c)
ltb-sub a b c h = sym (rw (le-ltb a b h) at (ltb-add a b c))

ltb-min : (a b c : ℕ) → ltb (min a b) c ≡ (ltb b c || ltb a c)
ltb-min a b c = go (ltb b c) refl (ltb a c) refl
  where
    go : (s : Bool) → ltb b c ≡ s → (t : Bool) → ltb a c ≡ t → ltb (min a b) c ≡ (s || t)
    go true e t h = lt-ltb (min a b) c (omega (arith, ltb-true))
    go false e true h = lt-ltb (min a b) c (omega (arith, ltb-true))
    go false e false h = le-ltb (min a b) c (omega (arith, ltb-false))

room_left : (a b t c p q r u v w : ℕ) → t ≤ a → t ≤ b → q ≤ p → v ≤ u
    → (ltb (min a b - t) c || (ltb (p - q) r || ltb (u - v) w)) ≡ (ltb b (t + c) || (ltb a (t + c) || (ltb p (q + r) || ltb u (v + w))))
room_left a b t c p q r u v w ha hb hp hu =
    rw (ltb-sub (min a b) t c (omega arith), ltb-min a b (t + c), ltb-sub p q r hp, ltb-sub u v w hu) (or_assoc (ltb b (t + c)) (ltb a (t + c)) (ltb p (q + r) || ltb u (v + w)))

counted : (st : State) (g : JoinInput) → zero_in st < st.tally.lines
    → join_line_count st g ≡ edges_lines (λ a. eqb (flag_of g a) (zero_in st)) (eqb g.asked.flow.0 (zero_in st)) (edges_of g)
    + dispatch_lines (zero_after_all (λ a. eqb (flag_of g a) (zero_in st)) (eqb g.asked.flow.0 (zero_in st)) (edges_of g)) g.asked.dispatches
unfolding join_line_count join_program
counted st g below =
    rw (dispatches_length g.asked.dispatches g.dispatches) at
    (joined st.tally.lines (zero_in st) below (bits_in st) (λ p. refl) (kernel_in g) (flag_of g) (λ r. (register_node st.roles r).0) (dynamic_for g.dynamics) (edges_of g) (dispatches_of g) 0 st.counts.names g.asked.flow.0)

pub exceeds_room : (l : JoinLent) (h : JoinHeld) (g : JoinInput) → zero_in h.state < h.state.tally.lines → h.state.tally.lines ≤ most_lines → h.state.tally.lines ≤ capacity (length l.list)
    → h.state.counts.names ≤ length l.names → h.sequentials ≤ length l.sequentials
    → exceeding (λ a. eqb (flag_of g a) (zero_in h.state)) (left_of l h g.asked.flow) (edges_of g) g.asked.dispatches ≡ join_room_out l h g
unfolding exceeding join_room_out
exceeds_room l h g below most room names sequentials =
    rw (counted h.state g below)
    (room_left (capacity (length l.list)) most_lines h.state.tally.lines _ (length l.names) h.state.counts.names (length (names_of (edges_of g))) (length l.sequentials) h.sequentials (nexts_of (edges_of g)) room most names sequentials)
