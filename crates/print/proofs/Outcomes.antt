-- What printing gives, test by test. Assumes nothing.
use Prim.Native.Nat.{ℕ, ◌+◌, ◌<◌, ◌≤◌}
use mathlib.Core.Path.{◌≡◌, ◌∙◌}
use mathlib.Core.Bool.{true, false}
use mathlib.Core.List.{List, ◌++◌}
use lib.ListN.{length, drop}
use native.Mathlib.Omega.{arith}
use borrow.Author.Tests.{lt-ltb, le-ltb, ne_eqb}
use lib.Dec.{ltb}
use Rattle.text.specs.Put.{Put}
use Rattle.text.proofs.Laws.{put_is}
use Rattle.line_text.specs.Line.{nodes, run_text}
use Rattle.refusals.specs.declared.Refusal.{Refusal}
use Rattle.refusals.proofs.Numbered.{numbered}
use Rattle.refusals.specs.Refusal.{refusal_number}
use Rattle.print.specs.Printing.{refused, written, print_outcome, whole_refusal, printing}

module _ (ws : List ℕ) (lines : ℕ) (host ours : List ℕ) (from count : ℕ) (out : List ℕ) where
  abbrev pub run : List ℕ
  run = run_text host ours (nodes ws lines) from count

  pub refused_9 : ltb lines (from + count) ≡ true → print_outcome (refused 9) out ≡ printing ws lines host ours from count out
  unfolding printing
  refused_9 e = rw e

  module _ (inside : ltb lines (from + count) ≡ false) where
    pub refused_whole : (r : Refusal) → refusal_number r ≡ whole_refusal ws lines (length host) (length ours) → print_outcome (refused (refusal_number r)) out ≡ printing ws lines host ours from count out
    unfolding printing
    refused_whole r e = rw (inside, ← e, ne_eqb (refusal_number r) 0 (numbered r))

    module _ (whole : whole_refusal ws lines (length host) (length ours) ≡ 0) where
      pub refused_14 : length out < length run → print_outcome (refused 14) out ≡ printing ws lines host ours from count out
      unfolding printing
      refused_14 h = rw (inside, whole, lt-ltb (length out) (length run) h)

      pub written_run : (out' : List ℕ) (r n : ℕ) → Put out 0 run out' r → n ≡ length run → length run ≤ length out
          → print_outcome (written n) out' ≡ printing ws lines host ours from count out
      unfolding printing
      written_run out' r n put e h =
          let z : 0 + length run ≡ length run = omega arith in
          let is : out' ≡ run ++ drop (length run) out = put_is put (omega arith) ∙ rw z in
          rw (inside, whole, le-ltb (length out) (length run) h, e, is)
