-- What only private contracts cite: a list with no refusal but perhaps 14, and the room that its text takes at most.
use Rattle.std.specs.Prelude.{ℕ, zero, suc, ◌+◌, ◌*◌, ◌≤◌, ◌≡◌, false, List, length}
use Rattle.btor2.specs.Op.{Op, const, read, write, bin, uext, ite, eq, and, or, not, state, state_init, next, input, bad, unknown}
use Rattle.btor2_list.specs.Record.{record_at, capacity}
use Rattle.btor2_list.specs.Node.{op_of}
use Rattle.list_check.specs.declared.Checked.{Checked}
use Rattle.list_check.specs.declared.Checked.TheVariants.{Unformed, Unnamed, Named}
use Rattle.list_check.specs.Lines.{some}
use Rattle.list_check.specs.Formed.{op_unformed}
use Rattle.list_check.specs.Operand.{no_value_at}
use Rattle.print.specs.Printing.{nid_too_large, nids_too_large, whole_refusal}

-- what the record at place p says
abbrev pub said : List ℕ → ℕ → Op ℕ
said ws p = op_of (record_at ws p)

-- how many bytes more than 53 a line takes at most: a named one has its name, or `?`, and perhaps a second row
abbrev pub name_room : Op ℕ → ℕ
name_room (const s n) = 0
name_room (read m a) = 0
name_room (write m a v) = 0
name_room (bin o a b) = 0
name_room (uext s a) = 0
name_room (ite s c a b) = 0
name_room (eq a b) = 0
name_room (and s a b) = 0
name_room (or s a b) = 0
name_room (not s a) = 0
name_room (state s m) = 10 + m.len
name_room (state_init s a m) = 10 + m.len
name_room (next s a b) = 0
name_room (input s m) = 10 + m.len
name_room (bad a m) = 10 + m.len
name_room unknown = 0

-- of the first n lines
unfoldable pub rooms : List ℕ → ℕ → ℕ
rooms ws zero = 0
rooms ws (suc n) = rooms ws n + name_room (said ws n)

-- r is more than `names` by the room for the name of a line that the check finds so; one that is not well formed has none
abbrev pub RoomWith : Checked → ℕ → ℕ → Type 0
RoomWith Unformed names r = ⊥
RoomWith Unnamed names r = names ≤ r
RoomWith (Named len) names r = names + (10 + len) ≤ r

-- the first n lines have neither 9 nor 11, and r has room for their names
pub record Surveyed (ws : List ℕ) (lines host ours n r : ℕ) : Type 0 where
  pub nids : some n (nid_too_large ws lines) ≡ false
  pub formed : some n (λ p. op_unformed host ours (no_value_at ws p) (said ws p)) ≡ false
  pub room : rooms ws n ≤ r

pub record Roomy (ws : List ℕ) (lines host ours from count end : ℕ) : Type 0 where
  pub whole : whole_refusal ws lines host ours ≡ 0
  pub nids : nids_too_large ws lines ≡ false
  pub held : lines ≤ capacity (length ws)
  pub inside : from + count ≤ lines
  pub room : 53 * count + rooms ws lines ≤ end
