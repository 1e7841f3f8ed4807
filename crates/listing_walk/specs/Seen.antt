-- What the inner steps of the walk answer, and what the code's state tells of what was taken.
use Rattle.std.specs.Prelude as std
use Rattle.std.specs.Prelude.{ℕ, ◌+◌, ◌≤◌, List, eqb, Result, Some, None}
use Rattle.std.proofs.Math.Option.{Option, none, some}
use Rattle.base_fields.specs.Answer as answer
use Rattle.base_fields.specs.Answer.{Answer, given, choose, and_then}
use Rattle.base_fields.specs.Refusal.{told, told_or_none}
use Rattle.base_fields.specs.declared.refusal.Refusal.{Refusal}
use Rattle.base_fields.specs.Span.{Span}
use Rattle.atom_tree.specs.Atom.{Known, Header}
use Rattle.atom_tree.specs.Told.{span_of}
use Rattle.atom_tree.specs.declared.BodyAt.{BodyAt}
use Rattle.table_front.specs.declared.TableKind.{TableKind}
use Rattle.listing_spec.specs.Walk.{TakenTable, Taken, body_of, grouping_of, once}
use Rattle.listing_walk.specs.Told.{taken_as}
use Rattle.listing_walk.specs.declared.Seen.{Seen}

abbrev pub table_of : std.Option (TableKind × BodyAt) → Option TakenTable
table_of None = none
table_of (Some table) = some (taken_as table.0 (span_of table.1))

abbrev pub sgpd_of : std.Option BodyAt → Option Span
sgpd_of None = none
sgpd_of (Some body) = some (span_of body)

abbrev pub taken_of : Seen → Taken
taken_of seen = record { table = table_of seen.table; sgpd = sgpd_of seen.sgpd }

abbrev pub told_visited : Result Seen Refusal → Answer Taken
told_visited = told taken_of

abbrev pub told_named : Result (std.Option BodyAt) Refusal → Answer Span
told_named = told_or_none span_of

-- the body at `place` of an atom of a size, behind a header of n bytes, ends at or before `end`
abbrev pub SpanEnds : ℕ → ℕ → ℕ → Known → Type 0
SpanEnds end place n none = Unit
SpanEnds end place n (some size) = (n ≤ size) × (place + size ≤ end + n)

-- the body that a header declares ends at or before `end`; an open one ends with its parent
abbrev pub EndsInside : ℕ → Header → Type 0
EndsInside end h = SpanEnds end h.body h.header_length h.size

-- the body of a child that is looked at, where it has the named type; none where it has another
unfoldable pub named_body : List ℕ → ℕ → ℕ → Header → Answer Span
named_body s t short h = and_then (body_of short h) (λ b. choose (eqb (grouping_of s b) t) (given b) answer.none)

-- a body of the named type is taken: a second table is 51, a second sgpd 53
abbrev pub take_table : (Span → TakenTable) → Taken → Span → Answer Taken
take_table at seen b = once seen.table 51 (given (record { table = some (at b); sgpd = seen.sgpd }))

abbrev pub take_sgpd : Taken → Span → Answer Taken
take_sgpd seen b = once seen.sgpd 53 (given (record { table = seen.table; sgpd = some b }))
