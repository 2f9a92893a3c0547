-- What a visit comes to: 18, 17, or what the line says. Assumes nothing.
use Rattle.std.proofs.Common.{◌≡◌, ℕ, ◌+◌, ◌<◌, ◌≤◌, Bool, true, false, List, length, sym, ap, ◌∙◌}
use Rattle.refusals.specs.declared.Refusal.TheVariants.{TooManyVisits, VisitIllSorted}
use Rattle.btor2.specs.declared.NodeType.{NodeType}
use Rattle.btor2.specs.declared.NodeType.TheVariants.{Bit, Word, Memory}
use Rattle.btor2.specs.Op.{Op, map_op, const, read, write, bin, uext, ite, eq, and, or, not, state, state_init, next, input, bad, unknown}
use Rattle.btor2.specs.SortRule.{is, rule}
use Rattle.btor2_list.specs.Record.{capacity}
use Rattle.sort_check.specs.Marks.{mark_at}
use Rattle.evaluation.specs.Evaluation.{most_visits}
use Rattle.evaluation_calls.specs.declared.Bench.{Bench}
use Rattle.evaluation_calls.specs.Inside.{said_at, env_of, num_from, cell_from, told_by, Fit, Entered, Stopped}
use Rattle.evaluation_calls.proofs.Parts.{Parts, parts, earlier}
use Rattle.evaluation_calls.proofs.Entered.{first_or, num_over, cell_over, num_broken, cell_broken, num_in, cell_in}

module _ (b : Bench) (p v : ℕ) (held : p < capacity (length b.list.now)) where
  abbrev words : List ℕ
  words = b.list.now

  abbrev rule_of : Op ℕ → Bool
  rule_of o = rule (map_op (mark_at words p) o)

  before : (s : NodeType) (q : ℕ) → is s (mark_at words p q) ≡ true → q < p
  before s q e = (earlier words p held s q e).0

  fit : (o : Op ℕ) → Parts (mark_at words p) o → Fit p o
  fit (const s n) e = tt
  fit (read m a) e = (before Memory m e.0, before Word a e.1)
  fit (write m a w) e = (before Memory m e.0, before Word a e.1, before Word w e.2)
  fit (bin o l r) e = (before Word l e.0, before Word r e.1)
  fit (uext s a) e = before s a e.1
  fit (ite s c l r) e = (before Bit c e.0, before s l e.1, before s r e.2)
  fit (eq l r) e = first_or _ _ _ _ _ e (λ x y. (before Bit l x, before Bit r y)) (λ x y. (before Word l x, before Word r y))
  fit (and s l r) e = (before s l e.1, before s r e.2)
  fit (or s l r) e = (before s l e.1, before s r e.2)
  fit (not s a) e = (e.0, before s a e.1)
  fit (state s m) e = tt
  fit (state_init s a m) e = tt
  fit (next s l r) e = tt
  fit (input s m) e = tt
  fit (bad a m) e = tt
  fit unknown e = tt

  pub over : most_visits ≤ v → Stopped b p v TooManyVisits
  unfolding num_from cell_from
  over l = record { num = num_over (env_of b) words p held v l; cell = λ a. cell_over (env_of b) words p held a v l }

  pub broken : (o : Op ℕ) → o ≡ said_at words p → v < most_visits → rule_of o ≡ false → Stopped b p v VisitIllSorted
  unfolding num_from cell_from
  broken o says l e =
      let r = sym (ap rule_of says) ∙ e in
      record { num = num_broken (env_of b) words p held v l r; cell = λ a. cell_broken (env_of b) words p held a v l r }

  pub entered : (o : Op ℕ) → o ≡ said_at words p → v < most_visits → rule_of o ≡ true → Entered b p v o
  unfolding num_from cell_from told_by
  entered o says l e =
      let r = sym (ap rule_of says) ∙ e in
      record {
        fit = fit o (parts (mark_at words p) o e);
        num = num_in (env_of b) words p held v l r ∙ ap (λ (x : Op ℕ). (told_by b p x).num (v + 1)) (sym says);
        cell = λ a. cell_in (env_of b) words p held a v l r ∙ ap (λ (x : Op ℕ). (told_by b p x).cell a (v + 1)) (sym says);
        counted = l;
      }
