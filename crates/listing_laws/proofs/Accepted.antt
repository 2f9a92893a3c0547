-- The listing's own start: its lines, that the start's check accepts it, x0's node, and demand 3 from it. Assumes nothing.
use Rattle.std.specs.Prelude.{None}
use Prim.Native.Nat.{ℕ, ◌+◌, ◌≤◌}
use mathlib.Core.Path.{◌≡◌, refl, ◌∙◌, ap}
use mathlib.Core.Bool.{Bool, false, not}
use mathlib.Core.List.{List, [], ◌∷◌, ◌++◌}
use native.Mathlib.Omega.{arith}
use borrow.Author.Tests.{le-ltb}
use lib.Dec.{lit≤}
use lib.ListN.{length, length-append, drop, length-drop}
use Rattle.btor2.specs.Op.{map_op, carried}
use Rattle.btor2.specs.Walk.{walk}
use Rattle.btor2.specs.SortRule.{rule, is_state_op, judge, judged, all_right, meets_sort_rule}
use Rattle.btor2.specs.Value.{Env, eval_op, values, value}
use Rattle.btor2_list.specs.Record.{capacity, words_for, record_at}
use Rattle.btor2_list.specs.Node.{Node, op_of}
use Rattle.btor2_list.specs.View.{view}
use Rattle.list_check.specs.Lines.{ops, some}
use Rattle.list_check.specs.Formed.{op_unformed, unformed}
use Rattle.nid_check.specs.Identifiers.{taken, rising, nids_out}
use Rattle.riscv.specs.Refusal.{first}
use Rattle.state.specs.RolesFit.{roles_fit}
use Rattle.state.specs.declared.room.Room.{Room}
use Rattle.state.specs.Room.{room_of, counts_out}
use Rattle.btor2_list.specs.Limits.{most_start_nid}
use Rattle.lowering_laws.specs.Lines.{numbered}
use Rattle.start.specs.Start.{start_refusal}
use Rattle.listing_start.specs.Start.{first_nid, start_lines, start_names, concat, host_area, start_name, named_states, start_ops, records, start_words, start_in, from_on, start_roles, start_state}
use Rattle.meaning.specs.Lines.{operators}
use Rattle.demand.specs.Demand3.{register_node_value}
use Rattle.demand.proofs.Demand3.{demand_3}
use Rattle.listing_laws.specs.Accepted.{StartLines, StartAccepted, listing_start, StartZero, StartMeans}
use Rattle.listing_laws.proofs.Words.{view_front, roles_front}

-- ---- computed over the start's words alone

whole : length start_words ≡ words_for start_lines
unfolding start_names concat start_name named_states start_ops records start_words
whole = refl

lines : view start_words start_lines ≡ numbered None first_nid start_ops
unfolding start_names concat start_name named_states start_ops records start_words view record_at op_of numbered
lines = refl

rising_nids : nids_out (first_nid + start_lines) (taken (numbered None first_nid start_ops)) ≡ false
unfolding start_names concat start_name named_states start_ops numbered taken nids_out rising
rising_nids = refl

formed : (ours : ℕ) → unformed (length host_area) ours (ops (numbered None first_nid start_ops)) ≡ false
unfolding start_names concat host_area start_name named_states start_ops numbered unformed some op_unformed carried
formed ours = refl

sorted : not (meets_sort_rule (ops (numbered None first_nid start_ops))) ≡ false
unfolding start_names concat start_name named_states start_ops numbered meets_sort_rule judged walk judge rule is_state_op carried map_op all_right
sorted = refl

roles : not (roles_fit start_words start_lines 0 start_roles) ≡ false
unfolding start_names concat start_name named_states start_ops records start_words record_at op_of carried roles_fit from_on start_roles
roles = refl

-- ---- in words of any length that holds them

module _ (words : List ℕ) (h : words_for start_lines ≤ length words) where
  put : start_in words ≡ start_words ++ drop (words_for start_lines) words
  unfolding start_in
  put = rw (le-ltb (capacity (length words)) start_lines (omega arith))

  put_length : length (start_in words) ≡ length words
  put_length = rw (put, length-append start_words (drop (words_for start_lines) words), whole, length-drop (words_for start_lines) words) (omega arith)

  pub lines_put : view (start_in words) start_lines ≡ numbered None first_nid start_ops
  lines_put = rw put (view_front start_words (drop (words_for start_lines) words) start_lines (rw whole (lit≤ tt)) ∙ lines)

  pub roles_put : not (roles_fit (start_in words) start_lines 0 start_roles) ≡ false
  roles_put = rw put (ap not (roles_front start_words (drop (words_for start_lines) words) start_lines (rw whole (lit≤ tt)) 0 start_roles) ∙ roles)

pub start_lines_lem : StartLines
start_lines_lem words h = lines_put words h

-- ---- the check

counted : (room : Room) → start_lines ≤ room.lines → counts_out most_start_nid room start_state.tally start_state.counts ≡ false
unfolding start_state
counted room h =
    rw (le-ltb room.lines start_lines h, le-ltb room.names 0 (omega arith), le-ltb room.edges 0 (omega arith), le-ltb room.dispatches 0 (omega arith), le-ltb room.bads 0 (omega arith))

-- no test holds
none : (a b c d e : Bool) → a ≡ false → b ≡ false → c ≡ false → d ≡ false → e ≡ false → first ((a, 9) ∷ (b, 10) ∷ (c, 11) ∷ (d, 12) ∷ (e, 13) ∷ []) ≡ 0
none a b c d e qa qb qc qd qe = rw (qa, qb, qc, qd, qe)

pub start_accepted : StartAccepted
unfolding start_refusal start_state
start_accepted words room h g =
    let v = lines_put words h in
    none _ _ _ _ _ (counted room g)
    (ap (λ (x : List Node). nids_out (first_nid + start_lines) (taken x)) v ∙ rising_nids)
    (ap (λ (x : List Node). unformed (length host_area) room.names (ops x)) v ∙ formed room.names)
    (ap (λ (x : List Node). not (meets_sort_rule (ops x))) v ∙ sorted)
    (roles_put words h)

-- ---- demand 3

zero_line : (env : Env) → (value env (ops (numbered None first_nid start_ops)) 2).num ≡ 0
unfolding start_names concat start_name named_states start_ops numbered walk map_op eval_op values value
zero_line env = refl

pub start_zero : StartZero
unfolding register_node_value operators start_state start_roles from_on
start_zero words names env h = ap (λ (x : List Node). (value env (ops x) 2).num) (lines_put words h) ∙ zero_line env

pub given : length start_state.roles ≡ 79
unfolding start_state start_roles from_on
given = refl

pub start_means : StartMeans
unfolding room_of
start_means words names calls h records none =
    let start = listing_start words names in
    demand_3 start calls
    (record {
      host = host_area;
      edges = [];
      dispatches = [];
      bads = [];
      accepts = start_accepted words (room_of (length (start_in words)) (length names) 0 0 0) h (rw (put_length words h) (omega arith));
      given = given;
    })
    records none
