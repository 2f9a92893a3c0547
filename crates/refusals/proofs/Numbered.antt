-- No refusal has the number 0, which says that there is none. Assumes nothing.
use Rattle.std.proofs.Common.{◌≡◌}
use Rattle.refusals.specs.declared.Refusal.{Refusal}
use Rattle.refusals.specs.declared.Refusal.TheVariants.{UnknownKind, FieldOut, ShiftAmount, SrliwByZero, ZeroDestination, JalrOffset, NoFlag, NoRoom, BadCount, BadIdentifiers, Unformed, IllSorted, UnfitRoles, OutputTooShort, JoinFlags, JoinEdges, VisitIllSorted, TooManyVisits, UnfitAsked}
use Rattle.refusals.specs.Refusal.{refusal_number}

pub numbered : (r : Refusal) → refusal_number r ≡ 0 → ⊥
numbered UnknownKind e = cc
numbered FieldOut e = cc
numbered ShiftAmount e = cc
numbered SrliwByZero e = cc
numbered ZeroDestination e = cc
numbered JalrOffset e = cc
numbered NoFlag e = cc
numbered NoRoom e = cc
numbered BadCount e = cc
numbered BadIdentifiers e = cc
numbered Unformed e = cc
numbered IllSorted e = cc
numbered UnfitRoles e = cc
numbered OutputTooShort e = cc
numbered JoinFlags e = cc
numbered JoinEdges e = cc
numbered VisitIllSorted e = cc
numbered TooManyVisits e = cc
numbered UnfitAsked e = cc
