-- The rest of a join's edges, and of its dispatches, after what is done. Assumes nothing.
use Rattle.std.proofs.Common.{ℕ, ◌+◌, ◌≡◌, List, [], ◌∷◌, length, refl, ap, ◌∙◌, arith, length-append}
use Rattle.std.proofs.lemmas.List.Edits.{sets}
use Rattle.builder.specs.Prog.{exec}
use Rattle.builder.specs.Append.{at, append}
use Rattle.builder.specs.Builds.{Builds}
use Rattle.builder.specs.declared.Builder.{Builder}
use Rattle.builder.proofs.Exec.{chain}
use Rattle.text.proofs.Laws.{sets-append}
use Rattle.join.specs.ControlFlow.{Bits, Kernel, control_flow_from_jalr}
use Rattle.join.specs.Listed.{append_listed}
use Rattle.join.specs.Program.{Edge, Dispatch, edge_name, names_of, nexts_by, nexts_of, from_edge, join_edges, join_dispatches}
use Rattle.join.proofs.Lists.{rest}
use Rattle.join_calls.specs.Steps.{joining_store, SameAreas, Joins, RoomForEdges, RoomForEdge}
use Rattle.join_calls.specs.declared.areas.Areas.{Areas}

module _ (bits : Bits ℕ) (k : Kernel ℕ) (flag_of : ℕ → ℕ) where
  -- from here on the edges xs give what xs₀ give from the start
  pub record Going (b : Builder) (a : Areas) (flow : ℕ) (xs : List (Edge ℕ)) (b₀ : Builder) (a₀ : Areas) (flow₀ : ℕ) (xs₀ : List (Edge ℕ)) : Type 0 where
    pub left : exec append_listed (joining_store b a) (join_edges bits k flag_of a.named xs flow) ≡ exec append_listed (joining_store b₀ a₀) (join_edges bits k flag_of a₀.named xs₀ flow₀)
    pub texts : sets a.names.now a.named (names_of xs) ≡ sets a₀.names.now a₀.named (names_of xs₀)
    pub named : a.named + length (names_of xs) ≡ a₀.named + length (names_of xs₀)
    pub counted : a.listed + nexts_of xs ≡ a₀.listed + nexts_of xs₀
    pub same_list : b.list.ghost_name ≡ b₀.list.ghost_name
    pub same_areas : SameAreas a₀ a

  pub begins : (b : Builder) (a : Areas) (flow : ℕ) (xs : List (Edge ℕ)) → Going b a flow xs b a flow xs
  begins b a flow xs = record { left = refl; texts = refl; named = refl; counted = refl; same_list = refl; same_areas = record { names = refl; sequentials = refl } }

  module _ {b : Builder} {a : Areas} {flow : ℕ} {b₀ : Builder} {a₀ : Areas} {flow₀ : ℕ} {xs₀ : List (Edge ℕ)} where
    pub one_of : {x : Edge ℕ} {xs : List (Edge ℕ)} → Going b a flow (x ∷ xs) b₀ a₀ flow₀ xs₀ → RoomForEdges a₀ xs₀ → RoomForEdge a x.origin x.from
    unfolding names_of nexts_of
    one_of {x} {xs} g r = record {
      names = omega (arith, r.names, g.named, length-append (edge_name x.origin x.from) (names_of xs));
      sequentials = omega (arith, r.sequentials, g.counted);
    }

    pub goes : {x : Edge ℕ} {xs : List (Edge ℕ)} {b' : Builder} {a' : Areas} {flow' : ℕ}
        → Joins b a (from_edge bits k flag_of a.named x flow) (edge_name x.origin x.from) (nexts_by x.origin) b' a' flow'
        → Going b a flow (x ∷ xs) b₀ a₀ flow₀ xs₀ → Going b' a' flow' xs b₀ a₀ flow₀ xs₀
    unfolding names_of nexts_of join_edges
    goes {x} {xs} {b'} {a'} {flow'} m g = record {
      left =
          ap (λ n. exec append_listed (joining_store b' a') (join_edges bits k flag_of n xs flow')) m.named
          ∙ rest (λ f. join_edges bits k flag_of (a.named + length (edge_name x.origin x.from)) xs f) m.lists ∙ g.left;
      texts = rw (m.texts, m.named) (sets-append (edge_name x.origin x.from) (names_of xs) a.names.now a.named ∙ g.texts);
      named = omega (arith, m.named, g.named, length-append (edge_name x.origin x.from) (names_of xs));
      counted = omega (arith, m.counted, g.counted);
      same_list = m.same_list ∙ g.same_list;
      same_areas = record { names = m.same_areas.names ∙ g.same_areas.names; sequentials = m.same_areas.sequentials ∙ g.same_areas.sequentials };
    }

    pub ends : Going b a flow [] b₀ a₀ flow₀ xs₀ → Joins b₀ a₀ (join_edges bits k flag_of a₀.named xs₀ flow₀) (names_of xs₀) (nexts_of xs₀) b a flow
    unfolding names_of nexts_of join_edges
    ends g = record {
      lists = record { is = g.left };
      texts = g.texts;
      named = omega (arith, g.named);
      counted = omega (arith, g.counted);
      same_list = g.same_list;
      same_areas = g.same_areas;
    }

-- ---- dispatches

module _ (bits : Bits ℕ) (registers dynamics : ℕ → ℕ) where
  pub record Dispatching (b : Builder) (flow : ℕ) (ds : List (Dispatch ℕ)) (b₀ : Builder) (flow₀ : ℕ) (ds₀ : List (Dispatch ℕ)) : Type 0 where
    pub left : exec append (at b.list.now b.tally) (join_dispatches bits registers dynamics ds flow) ≡ exec append (at b₀.list.now b₀.tally) (join_dispatches bits registers dynamics ds₀ flow₀)
    pub same : b.list.ghost_name ≡ b₀.list.ghost_name

  pub dispatching : (b : Builder) (flow : ℕ) (ds : List (Dispatch ℕ)) → Dispatching b flow ds b flow ds
  dispatching b flow ds = record { left = refl; same = refl }

  module _ {b b₀ : Builder} {flow flow₀ : ℕ} {ds₀ : List (Dispatch ℕ)} where
    pub dispatch_goes : {x : Dispatch ℕ} {ds : List (Dispatch ℕ)} {b' : Builder} {flow' : ℕ} → Builds b (control_flow_from_jalr bits (registers x.register) (dynamics x.register) x.address flow) b' flow'
        → Dispatching b flow (x ∷ ds) b₀ flow₀ ds₀ → Dispatching b' flow' ds b₀ flow₀ ds₀
    unfolding join_dispatches
    dispatch_goes {x} {ds} g d = record {
      left = chain append (at b.list.now b.tally) (control_flow_from_jalr bits (registers x.register) (dynamics x.register) x.address flow) (λ f. join_dispatches bits registers dynamics ds f) g.is.is refl ∙ d.left;
      same = g.same ∙ d.same;
    }

    pub dispatch_ends : Dispatching b flow [] b₀ flow₀ ds₀ → Builds b₀ (join_dispatches bits registers dynamics ds₀ flow₀) b flow
    unfolding join_dispatches
    dispatch_ends d = record { is = record { is = d.left }; same = d.same }
