-- A program that is run without an address, and its lines given one afterwards, is the program run with that address. Assumes nothing.
use Rattle.std.proofs.Common.{◌≡◌, ℕ, ◌+◌, ◌-◌, ◌%◌, ◌^◌, Bool, true, false, List, sym, refl, ap, ◌∙◌, arith, Option, Some, None}
use Rattle.btor2.specs.Op.{Op, identifiers}
use Rattle.btor2_list.specs.Record.{holds, put_at, address_lines}
use Rattle.btor2_list.specs.Node.{Node, line_of}
use Rattle.btor2_list.proofs.View.{node_back}
use Rattle.btor2_list.proofs.Addressed.{addressed_length, address_put}
use Rattle.builder.specs.Prog.{Prog, done, line, Run, ran, exec}
use Rattle.builder.specs.declared.Tally.{Tally}
use Rattle.builder.specs.Gives.{Gives}
use Rattle.builder.specs.Append.{Store, at, append_line, append_for, append, run_for}

-- ---- one line

abbrev next : Tally → Op ℕ → Tally
next t o = record { lines = t.lines + 1; nid = (t.nid + identifiers o) % 2 ^ 64 }

module _ (w : Option ℕ) (ws : List ℕ) (t : Tally) (o : Op ℕ) where
  there : holds ws t.lines ≡ true → append_for w (at ws t) o ≡ ran (at (put_at ws t.lines (line_of w t.nid o)) (next t o)) t.lines
  unfolding append_line
  there h = rw (h, ap (λ (x : Node). identifiers x.op) (node_back w t.nid o))

  not_there : holds ws t.lines ≡ false → append_for w (at ws t) o ≡ ran (at ws t) t.lines
  unfolding append_line
  not_there h = rw h

-- ---- all lines

-- what a run left, with an address on the lines from place `from` on
abbrev addressed : {X : Type 0} → ℕ → ℕ → Run Store X → Run Store X
addressed from address r = ran (at (address_lines r.state.words from (r.state.tally.lines - from) address) r.state.tally) r.value

module _ {X : Type 0} (from address : ℕ) where
  -- the run goes on after n lines
  abbrev Same : Prog ℕ X → List ℕ → Tally → ℕ → Type 0
  Same p ws t n = addressed from address (exec append (at ws t) p) ≡ run_for address (address_lines ws from n address) t p

  abbrev without : (ℕ → Prog ℕ X) → Run Store ℕ → Run Store X
  without k r = addressed from address (exec append r.state (k r.value))

  abbrev with : (ℕ → Prog ℕ X) → Run Store ℕ → Run Store X
  with k r = exec (append_for (Some address)) r.state (k r.value)

  one_more : (o : Op ℕ) (k : ℕ → Prog ℕ X) (ws : List ℕ) (t : Tally) (n : ℕ) → t.lines ≡ from + n
      → ((ws' : List ℕ) (t' : Tally) (n' : ℕ) → t'.lines ≡ from + n' → Same (k t.lines) ws' t' n') → Same (line o k) ws t n
  one_more o k ws t n e rest = go (holds ws t.lines) refl
    where
      vs : List ℕ
      vs = address_lines ws from n address

      held : holds vs t.lines ≡ holds ws t.lines
      held = rw (addressed_length ws from n address)

      put : holds ws t.lines ≡ true → address_lines (put_at ws t.lines (line_of None t.nid o)) from (n + 1) address ≡ put_at vs t.lines (line_of (Some address) t.nid o)
      put h = rw e (address_put ws from n t.nid o address (rw e at h))

      go : (b : Bool) → holds ws t.lines ≡ b → Same (line o k) ws t n
      go true h =
          ap (without k) (there None ws t o h)
          ∙ rest (put_at ws t.lines (line_of None t.nid o)) (next t o) (n + 1) (omega arith)
          ∙ ap (λ (us : List ℕ). with k (ran (at us (next t o)) t.lines)) (put h)
          ∙ sym (ap (with k) (there (Some address) vs t o (held ∙ h)))
      go false h =
          ap (without k) (not_there None ws t o h)
          ∙ rest ws t n e
          ∙ sym (ap (with k) (not_there (Some address) vs t o (held ∙ h)))

  same : (p : Prog ℕ X) (ws : List ℕ) (t : Tally) (n : ℕ) → t.lines ≡ from + n → Same p ws t n
  same (done x) ws t n e =
      let some : t.lines - from ≡ n = omega arith in
      rw some
  same (line o k) ws t n e = one_more o k ws t n e (λ ws' t' n' e'. same (k t.lines) ws' t' n' e')

-- from the first line on
pub addressed_after : {X : Type 0} {ws ws' : List ℕ} {t t' : Tally} {p : Prog ℕ X} {x : X} (address : ℕ) → Gives ws t p ws' t' x
    → ran (at (address_lines ws' t.lines (t'.lines - t.lines) address) t') x ≡ run_for address ws t p
unfolding address_lines
addressed_after {ws = ws} {t = t} {p = p} address g = ap (addressed t.lines address) g.is ∙ same t.lines address p ws t 0 (omega arith)
