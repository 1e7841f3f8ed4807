-- The patterns ahead of a place in a table's payload.
use Rattle.std.specs.Prelude.{◌≡◌, false, ℕ, ◌+◌, ◌*◌, ◌≤◌, ◌<◌, List, [], ◌∷◌, map, length, Result, Ok, Err, Option, Some, None}
use Rattle.base_fields.specs.Answer.{given, refused, input_limit}
use Rattle.base_fields.specs.Number.{be_at}
use Rattle.base_fields.specs.Refusal.{number}
use Rattle.base_fields.specs.declared.refusal.Refusal.{Refusal}
use Rattle.table_front.specs.declared.TableKind.{TableKind}
use Rattle.table_front.specs.declared.TableKind.TheVariants.{Sbgp, Csgp}
use Rattle.table_rows.specs.Pattern.{Pattern, single}
use Rattle.table_patterns.specs.Place.{pattern_in, Stands}
use Rattle.table_patterns.specs.declared.PatternAt.{PatternAt}
use Rattle.table_sbgp.specs.Sbgp.{read_rows}
use Rattle.table_sbgp.specs.Head as rows
use Rattle.table_csgp_head.specs.Head as patterns
use Rattle.table_csgp_head.specs.declared.PatternsAt.{PatternsAt}
use Rattle.table_runs.specs.Patterns.{patterns_of}
use Rattle.table_runs.specs.declared.SampleTable.{SampleTable}
use Rattle.table_runs.specs.declared.SampleTable.TheVariants as table

-- the row at byte place p, as a pattern of one index
abbrev pub row_place : List ℕ → ℕ → PatternAt
row_place s p = record { length = 1; count = be_at 4 s p; width = 32; indices = 8 * (p + 4); marks = false }

-- of rows, `pair` is the byte place of the next one
abbrev pub all_in : SampleTable → PatternsAt
all_in (table.Rows h) = record { left = h.entry_count; pair = h.first; indices = 0 }
all_in (table.Patterns h) = patterns.all_patterns h

abbrev pub ahead_in : List ℕ → SampleTable → PatternsAt → List Pattern
ahead_in s (table.Rows h) here = map single (read_rows here.left s here.pair)
ahead_in s (table.Patterns h) here = patterns.ahead s here

-- all of them are within the payload
abbrev pub WholeIn : List ℕ → SampleTable → PatternsAt → Type 0
WholeIn s (table.Rows h) here = (here.pair + 8 * here.left ≤ length s) × (length s ≤ input_limit)
WholeIn s (table.Patterns h) here = patterns.Fixed s h × patterns.Whole s here

-- what the table's own reader tells of its head
abbrev pub LaidIn : List ℕ → SampleTable → Type 0
LaidIn s (table.Rows h) = rows.SbgpLaid s h
LaidIn s (table.Patterns h) = patterns.CsgpLaid s h

-- rows are an sbgp's, patterns a csgp's
abbrev pub OfKind : TableKind → SampleTable → Type 0
OfKind Sbgp (table.Rows h) = Unit
OfKind Sbgp (table.Patterns h) = ⊥
OfKind Csgp (table.Rows h) = ⊥
OfKind Csgp (table.Patterns h) = Unit

-- a table that was read: all of its patterns are ahead of the first
pub record Held (of : TableKind) (s : List ℕ) (t : SampleTable) : Type 0 where
  pub kind : OfKind of t
  pub patterns : patterns_of of s ≡ given (ahead_in s t (all_in t))
  pub whole : WholeIn s t (all_in t)
  pub laid : LaidIn s t

abbrev pub GivesHeld : TableKind → List ℕ → Result SampleTable Refusal → Type 0
GivesHeld kind s (Ok t) = Held kind s t
GivesHeld kind s (Err e) = patterns_of kind s ≡ refused (number e)

-- a step: the first pattern ahead, and the place behind it
pub record Step (s : List ℕ) (t : SampleTable) (here : PatternsAt) (p : PatternAt) (behind : PatternsAt) : Type 0 where
  pub stands : Stands s p
  pub first : ahead_in s t here ≡ pattern_in s p ∷ ahead_in s t behind
  pub whole : WholeIn s t behind
  pub fewer : behind.left < here.left

abbrev pub GivesPattern : List ℕ → SampleTable → PatternsAt → Option (PatternAt × PatternsAt) → Type 0
GivesPattern s t here (Some (p, behind)) = Step s t here p behind
GivesPattern s t here None = ahead_in s t here ≡ []
