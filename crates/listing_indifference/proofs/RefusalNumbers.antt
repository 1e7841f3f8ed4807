-- No two refusals have one number.
use mathlib.Core.Path.{◌≡◌, refl, ap, sym, ◌∙◌}
use mathlib.Core.List.{List, [], ◌∷◌}
use Prim.Native.Nat.{ℕ}
use lib.ListN.{get_or}
use Rattle.base_fields.specs.Refusal.{number}
use Rattle.base_fields.specs.declared.refusal.Refusal.{Refusal}
use Rattle.base_fields.specs.declared.refusal.Refusal.TheVariants as refusal

-- each at the place of its number, the first of all at the places between
abbrev by_number : List Refusal
by_number =
    refusal.HeaderCut ∷
    refusal.HeaderCut ∷
    refusal.ExtendedSizeCut ∷
    refusal.SmallSize ∷
    refusal.SmallExtendedSize ∷
    refusal.FarEnd ∷
    refusal.ChildPastParent ∷
    refusal.OpenChild ∷
    refusal.OpenBody ∷
    refusal.BodyOverLimit ∷
    refusal.BodyOverEnvelope ∷
    refusal.BodyCut ∷
    refusal.HeaderCut ∷
    refusal.HeaderCut ∷
    refusal.HeaderCut ∷
    refusal.HeaderCut ∷
    refusal.HeaderCut ∷
    refusal.HeaderCut ∷
    refusal.HeaderCut ∷
    refusal.HeaderCut ∷
    refusal.ShortTable ∷
    refusal.NoParameter ∷
    refusal.NoCount ∷
    refusal.RowsCut ∷
    refusal.PatternLengthCut ∷
    refusal.PatternCountCut ∷
    refusal.PatternLengthZero ∷
    refusal.IndexCut ∷
    refusal.RowCountOver ∷
    refusal.NoRecordLeft ∷
    refusal.ShortSgpd ∷
    refusal.NoDefaultIndex ∷
    refusal.NoEntryCount ∷
    refusal.NoEntryLength ∷
    refusal.ZeroShare ∷
    refusal.EntryCut ∷
    refusal.HeaderCut ∷
    refusal.HeaderCut ∷
    refusal.HeaderCut ∷
    refusal.HeaderCut ∷
    refusal.ShortEntry ∷
    refusal.NoPoints ∷
    refusal.PointCut ∷
    refusal.TrailerCut ∷
    refusal.OffsetsCut ∷
    refusal.PiecesCut ∷
    refusal.HeaderCut ∷
    refusal.HeaderCut ∷
    refusal.HeaderCut ∷
    refusal.HeaderCut ∷
    refusal.NoTable ∷
    refusal.SecondTable ∷
    refusal.NoSgpd ∷
    refusal.SecondSgpd ∷
    refusal.OutputTooShort ∷
    refusal.InputTooLong ∷
    refusal.HeaderCut ∷
    refusal.HeaderCut ∷
    refusal.HeaderCut ∷
    refusal.HeaderCut ∷
    refusal.NoTrack ∷
    refusal.NoContainer ∷
    refusal.FrameNotCovered ∷
    refusal.LengthDisagrees ∷
    refusal.OutputShorter ∷
    refusal.SyncTableCut ∷
    refusal.SyncNotRising ∷
    refusal.IndexTooLarge ∷
    refusal.HeaderCut ∷
    refusal.HeaderCut ∷
    refusal.NoStretch ∷
    refusal.QueueFull ∷
    refusal.QueueEmpty ∷
    refusal.NotInQueue ∷
    []

at_number : (r : Refusal) → get_or by_number (number r) refusal.HeaderCut ≡ r
at_number refusal.HeaderCut = refl
at_number refusal.ExtendedSizeCut = refl
at_number refusal.SmallSize = refl
at_number refusal.SmallExtendedSize = refl
at_number refusal.FarEnd = refl
at_number refusal.ChildPastParent = refl
at_number refusal.OpenChild = refl
at_number refusal.OpenBody = refl
at_number refusal.BodyOverLimit = refl
at_number refusal.BodyOverEnvelope = refl
at_number refusal.BodyCut = refl
at_number refusal.ShortTable = refl
at_number refusal.NoParameter = refl
at_number refusal.NoCount = refl
at_number refusal.RowsCut = refl
at_number refusal.PatternLengthCut = refl
at_number refusal.PatternCountCut = refl
at_number refusal.PatternLengthZero = refl
at_number refusal.IndexCut = refl
at_number refusal.RowCountOver = refl
at_number refusal.NoRecordLeft = refl
at_number refusal.ShortSgpd = refl
at_number refusal.NoDefaultIndex = refl
at_number refusal.NoEntryCount = refl
at_number refusal.NoEntryLength = refl
at_number refusal.ZeroShare = refl
at_number refusal.EntryCut = refl
at_number refusal.ShortEntry = refl
at_number refusal.NoPoints = refl
at_number refusal.PointCut = refl
at_number refusal.TrailerCut = refl
at_number refusal.OffsetsCut = refl
at_number refusal.PiecesCut = refl
at_number refusal.NoTable = refl
at_number refusal.SecondTable = refl
at_number refusal.NoSgpd = refl
at_number refusal.SecondSgpd = refl
at_number refusal.OutputTooShort = refl
at_number refusal.InputTooLong = refl
at_number refusal.NoTrack = refl
at_number refusal.NoContainer = refl
at_number refusal.FrameNotCovered = refl
at_number refusal.LengthDisagrees = refl
at_number refusal.OutputShorter = refl
at_number refusal.SyncTableCut = refl
at_number refusal.SyncNotRising = refl
at_number refusal.IndexTooLarge = refl
at_number refusal.NoStretch = refl
at_number refusal.QueueFull = refl
at_number refusal.QueueEmpty = refl
at_number refusal.NotInQueue = refl

pub number_inj : (a b : Refusal) → number a ≡ number b → a ≡ b
number_inj a b e = sym (at_number a) ∙ ap (λ (n : ℕ). get_or by_number n refusal.HeaderCut) e ∙ at_number b
