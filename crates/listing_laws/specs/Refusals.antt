-- The refusals of the listing, whatever came before.
use Rattle.std.specs.Prelude.{ℕ, ◌+◌, ◌≡◌, not, List, [], ◌∷◌, eqb, ltb}
use Rattle.listing_bytes.specs.Step.{emptied}
use Rattle.listing_bytes.specs.Storage.{listing_lines}
use Rattle.listing_bytes.specs.Listing.{reached}
use Rattle.listing_start.specs.Start.{placed}
use Rattle.lowering.specs.Lowering.{lowering}
use Rattle.lowering_refusals.specs.Refusal.{needs}
use Rattle.riscv.specs.declared.Instruction.{Instruction}
use Rattle.riscv.specs.Refusal.{refusal, first}

-- an instruction is refused with its own number, 1 to 6, or with 8 where the list would not hold its lines; 7 and 9 to 13 never come
abbrev pub OwnNumberOrFull : Type 0
OwnNumberOrFull = (before : List (List ℕ)) (i : Instruction) (address : ℕ) → let st = emptied (reached before).state in
    (lowering (reached before).lent st i address (placed 58)).lowered.refusal
    ≡ first ((not (eqb (refusal i) 0), refusal i) ∷ (ltb listing_lines (st.tally.lines + (needs i address).lines), 8) ∷ [])
