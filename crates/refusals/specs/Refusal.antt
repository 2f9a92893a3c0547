-- Each refusal and its number: documents 01 (1 to 14) and 02 (15 to 19).
use Rattle.std.specs.Prelude.{ℕ, Result, Ok, Err}
use Rattle.refusals.specs.declared.Refusal.{Refusal}
use Rattle.refusals.specs.declared.Refusal.TheVariants.{UnknownKind, FieldOut, ShiftAmount, SrliwByZero, ZeroDestination, JalrOffset, NoFlag, NoRoom, BadCount, BadIdentifiers, Unformed, IllSorted, UnfitRoles, OutputTooShort, JoinFlags, JoinEdges, VisitIllSorted, TooManyVisits, UnfitAsked}

abbrev pub refusal_number : Refusal → ℕ
refusal_number UnknownKind = 1
refusal_number FieldOut = 2
refusal_number ShiftAmount = 3
refusal_number SrliwByZero = 4
refusal_number ZeroDestination = 5
refusal_number JalrOffset = 6
refusal_number NoFlag = 7
refusal_number NoRoom = 8
refusal_number BadCount = 9
refusal_number BadIdentifiers = 10
refusal_number Unformed = 11
refusal_number IllSorted = 12
refusal_number UnfitRoles = 13
refusal_number OutputTooShort = 14
refusal_number JoinFlags = 15
refusal_number JoinEdges = 16
refusal_number VisitIllSorted = 17
refusal_number TooManyVisits = 18
refusal_number UnfitAsked = 19

-- the number of the refusal, 0 where there is none
abbrev pub refused_with : {A : Type 0} → Result A Refusal → ℕ
refused_with (Ok x) = 0
refused_with (Err r) = refusal_number r
