-- What a result tells: its value as document 01 has it, or the number of its refusal.
use Rattle.std.specs.Prelude.{ℕ, Result, Ok, Err, Option, Some, None}
use Rattle.base_fields.specs.Answer.{Answer, given, none, refused}
use Rattle.base_fields.specs.declared.refusal.Refusal.{Refusal}
use Rattle.base_fields.specs.declared.refusal.Refusal.TheVariants as refusal

abbrev pub number : Refusal → ℕ
number refusal.HeaderCut = 1
number refusal.ExtendedSizeCut = 2
number refusal.SmallSize = 3
number refusal.SmallExtendedSize = 4
number refusal.FarEnd = 5
number refusal.ChildPastParent = 6
number refusal.OpenChild = 7
number refusal.OpenBody = 8
number refusal.BodyOverLimit = 9
number refusal.BodyOverEnvelope = 10
number refusal.BodyCut = 11
number refusal.ShortTable = 20
number refusal.NoParameter = 21
number refusal.NoCount = 22
number refusal.RowsCut = 23
number refusal.PatternLengthCut = 24
number refusal.PatternCountCut = 25
number refusal.PatternLengthZero = 26
number refusal.IndexCut = 27
number refusal.RowCountOver = 28
number refusal.NoRecordLeft = 29
number refusal.ShortSgpd = 30
number refusal.NoDefaultIndex = 31
number refusal.NoEntryCount = 32
number refusal.NoEntryLength = 33
number refusal.ZeroShare = 34
number refusal.EntryCut = 35
number refusal.ShortEntry = 40
number refusal.NoPoints = 41
number refusal.PointCut = 42
number refusal.TrailerCut = 43
number refusal.OffsetsCut = 44
number refusal.PiecesCut = 45
number refusal.NoTable = 50
number refusal.SecondTable = 51
number refusal.NoSgpd = 52
number refusal.SecondSgpd = 53
number refusal.OutputTooShort = 54
number refusal.InputTooLong = 55
number refusal.NoTrack = 60
number refusal.NoContainer = 61
number refusal.FrameNotCovered = 62
number refusal.LengthDisagrees = 63
number refusal.OutputShorter = 64
number refusal.SyncTableCut = 65
number refusal.SyncNotRising = 66
number refusal.IndexTooLarge = 67
number refusal.NoStretch = 70
number refusal.QueueFull = 71
number refusal.QueueEmpty = 72
number refusal.NotInQueue = 73

abbrev pub told : {A B : Type 0} → (A → B) → Result A Refusal → Answer B
told f (Ok a) = given (f a)
told f (Err e) = refused (number e)

abbrev pub told_value : {A : Type 0} → Result A Refusal → Answer A
told_value = told (λ a. a)

abbrev pub told_or_none : {A B : Type 0} → (A → B) → Result (Option A) Refusal → Answer B
told_or_none f (Ok (Some a)) = given (f a)
told_or_none f (Ok None) = none
told_or_none f (Err e) = refused (number e)
