-- Where the counts are within their storage, a start has the number of its list, or 13. Assumes nothing.
use Prim.Native.Nat.{ℕ}
use mathlib.Core.Path.{◌≡◌, refl}
use mathlib.Core.Bool.{Bool, true, false, cond, not}
use mathlib.Core.List.{List, [], ◌∷◌, ◌++◌}
use lib.Dec.{eqb}
use lib.ListN.{length}
use borrow.Author.Tests.{le-ltb}
use Rattle.btor2.specs.SortRule.{meets_sort_rule}
use Rattle.btor2_list.specs.Limits.{most_start_nid, most_lines}
use Rattle.btor2_list.specs.Record.{capacity}
use Rattle.btor2_list.specs.View.{view}
use Rattle.list_check.specs.Lines.{ops}
use Rattle.list_check.specs.Formed.{unformed}
use Rattle.state.specs.declared.room.Room.{Room}
use Rattle.state.specs.declared.State.{State}
use Rattle.state.specs.Room.{counts_out}
use Rattle.state.proofs.Within.{within}
use Rattle.nid_check.specs.Identifiers.{taken, nids_out}
use Rattle.riscv.specs.Refusal.{first}
use Rattle.riscv.proofs.First.{Tests}
use Rattle.state.specs.RolesFit.{roles_fit}
use Rattle.start.specs.Start.{list_refusal, start_refusal}

-- the tests after 10 to 12 decide where none of these applies
then : (a b c : Bool) (ts : Tests) → let lines : Tests = (a, 10) ∷ (b, 11) ∷ (c, 12) ∷ [] in first (lines ++ ts) ≡ cond (eqb (first lines) 0) (first ts) (first lines)
then true b c ts = refl
then false true c ts = refl
then false false true ts = refl
then false false false ts = refl

module _ (ws : List ℕ) (host : ℕ) (room : Room) (st : State) (lent : room.lines ≡ capacity (length ws)) (in9 : counts_out most_start_nid room st.tally st.counts ≡ false) where
  pub by_list : let n = list_refusal ws st.tally.lines st.tally.nid host room.names in
      start_refusal ws host room st ≡ cond (eqb n 0) (cond (not (roles_fit ws st.tally.lines 0 st.roles)) 13 0) n
  unfolding start_refusal list_refusal
  by_list =
      let lines = view ws st.tally.lines in
      let w = within most_start_nid room st.tally st.counts in9 in
      rw (in9, ← lent, le-ltb most_lines st.tally.lines w.most, le-ltb room.lines st.tally.lines w.lines, le-ltb most_start_nid st.tally.nid w.nids) (then (nids_out st.tally.nid (taken lines)) (unformed host room.names (ops lines)) (not (meets_sort_rule (ops lines))) ((not (roles_fit ws st.tally.lines 0 st.roles), 13) ∷ []))
