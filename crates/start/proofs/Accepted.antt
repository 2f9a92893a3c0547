-- What a list and a start that are accepted have: no test of 9 to 12, or to 13, applies. Assumes nothing.
use Prim.Native.Nat.{ℕ}
use mathlib.Core.Path.{◌≡◌, refl}
use mathlib.Core.Bool.{Bool, true, false, not}
use mathlib.Core.List.{List, [], ◌∷◌, ◌++◌}
use native.Mathlib.Omega.{arith}
use borrow.Author.Tests.{not-false}
use lib.ListN.{length}
use Rattle.btor2.specs.SortRule.{meets_sort_rule}
use Rattle.btor2_list.specs.Limits.{most_start_nid, tally_out}
use Rattle.btor2_list.specs.Node.{Node}
use Rattle.btor2_list.specs.Record.{capacity}
use Rattle.btor2_list.specs.View.{view}
use Rattle.list_check.specs.Lines.{ops}
use Rattle.list_check.specs.Formed.{unformed}
use Rattle.state.specs.declared.room.Room.{Room}
use Rattle.state.specs.declared.State.{State}
use Rattle.state.specs.Room.{counts_out}
use Rattle.state.proofs.Within.{LinesWithin, lines_within, Within, within}
use Rattle.nid_check.specs.Identifiers.{taken, nids_out}
use Rattle.riscv.specs.Refusal.{first}
use Rattle.riscv.proofs.First.{Tests, passes}
use Rattle.state.specs.RolesFit.{roles_fit}
use Rattle.start.specs.Start.{tests_of_lines, list_refusal, start_refusal}

-- lines to which 10 to 12 do not apply
pub record LinesAccepted (lines : List Node) (next host ours : ℕ) : Type 0 where
  pub nids : nids_out next (taken lines) ≡ false
  pub formed : unformed host ours (ops lines) ≡ false
  pub sorts : meets_sort_rule (ops lines) ≡ true

-- and the tests after these
lines_accepted : (lines : List Node) (next host ours : ℕ) (ts : Tests)
    → first ((nids_out next (taken lines), 10) ∷ (unformed host ours (ops lines), 11) ∷ (not (meets_sort_rule (ops lines)), 12) ∷ ts) ≡ 0 → LinesAccepted lines next host ours × (first ts ≡ 0)
lines_accepted lines next host ours ts e =
    let t = each (nids_out next (taken lines)) (unformed host ours (ops lines)) (not (meets_sort_rule (ops lines))) e in
    (record { nids = t.0; formed = t.1; sorts = not-false _ t.2 }, t.3)
  where
    each : (a b c : Bool) → first ((a, 10) ∷ (b, 11) ∷ (c, 12) ∷ ts) ≡ 0 → (a ≡ false) × (b ≡ false) × (c ≡ false) × (first ts ≡ 0)
    each true b c e = absurd (omega (arith, e))
    each false true c e = absurd (omega (arith, e))
    each false false true e = absurd (omega (arith, e))
    each false false false e = (refl, refl, refl, e)

pub record ListAccepted (ws : List ℕ) (n next host ours : ℕ) : Type 0 where
  pub within : LinesWithin most_start_nid (capacity (length ws)) n next
  pub lines : LinesAccepted (view ws n) next host ours

pub list_accepted : (ws : List ℕ) (n next host ours : ℕ) → list_refusal ws n next host ours ≡ 0 → ListAccepted ws n next host ours
unfolding list_refusal
list_accepted ws n next host ours e =
    let p = passes (tally_out most_start_nid (capacity (length ws)) n next) 9 (tests_of_lines (view ws n) next host ours) (λ z. omega arith) e in
    record { within = lines_within most_start_nid (capacity (length ws)) n next p.0; lines = (lines_accepted (view ws n) next host ours [] p.1).0 }

pub record StartAccepted (ws : List ℕ) (host : ℕ) (room : Room) (st : State) : Type 0 where
  pub counts : Within most_start_nid room st.tally st.counts
  pub lines : LinesAccepted (view ws st.tally.lines) st.tally.nid host room.names
  pub roles : roles_fit ws st.tally.lines 0 st.roles ≡ true

module _ (ws : List ℕ) (host : ℕ) (room : Room) (st : State) (e : start_refusal ws host room st ≡ 0) where
  abbrev last : Tests
  last = (not (roles_fit ws st.tally.lines 0 st.roles), 13) ∷ []

  pub accepted : StartAccepted ws host room st
  unfolding start_refusal
  accepted =
      let n = st.tally.lines in
      let p9 = passes (counts_out most_start_nid room st.tally st.counts) 9 (tests_of_lines (view ws n) st.tally.nid host room.names ++ last) (λ z. omega arith) e in
      let p12 = lines_accepted (view ws n) st.tally.nid host room.names last p9.1 in
      record {
        counts = within most_start_nid room st.tally st.counts p9.0;
        lines = p12.0;
        roles = not-false _ (passes (not (roles_fit ws n 0 st.roles)) 13 [] (λ z. omega arith) p12.1).0;
      }
