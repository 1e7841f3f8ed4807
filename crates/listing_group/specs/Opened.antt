-- A group that is opened: the definition's answer, and where the payloads stand whose parts it is made of.
use Rattle.std.specs.Prelude.{ℕ, ◌+◌, ◌≤◌, ◌≡◌, List, length, Option, Some, None, Result, Ok, Err}
use Rattle.base_fields.specs.Answer.{given, refused}
use Rattle.base_fields.specs.Refusal.{number}
use Rattle.base_fields.specs.declared.refusal.Refusal.{Refusal}
use Rattle.base_fields.specs.Span.{Span, bytes_at}
use Rattle.group_sgpd.specs.Head.{ReadWhole}
use Rattle.table_rows.specs.Row.{Row, Table}
use Rattle.table_rows.specs.Pattern.{Pattern, covered_by}
use Rattle.table_runs.specs.Ahead.{all_in, ahead_in, WholeIn, LaidIn}
use Rattle.table_records.specs.Lent.{table_from}
use Rattle.table_needed.specs.Needed.{unlimited}
use Rattle.listing_spec.specs.Walk.{TakenTable, sources}
use Rattle.listing_spec.specs.Table.{entries_of}
use Rattle.listing_spec.specs.Group.{Group, group_taken}
use Rattle.listing_group.specs.declared.GroupAt.{GroupAt}

-- how many records there are: those that are lent, or enough
abbrev pub room_of : Option ℕ → ℕ
room_of (Some n) = n
room_of None = unlimited

-- what is counted: the rows, where records are lent for them; else the samples that the patterns cover
abbrev pub count_of : Option ℕ → List Row → List Pattern → ℕ
count_of (Some n) rows patterns = length rows
count_of None rows patterns = covered_by patterns

abbrev pub table_span : GroupAt → Span
table_span at = record { place = at.table_place; size = at.table_size }

abbrev pub sgpd_span : GroupAt → Span
sgpd_span at = record { place = at.sgpd_place; size = at.sgpd_size }

abbrev pub Inside : List ℕ → Span → Type 0
Inside s b = b.place + b.size ≤ length s

-- ts is the payload of the table, ds that of the sgpd
pub record Holds (ts ds : List ℕ) (room : ℕ) (at : GroupAt) (g : Group) : Type 0 where
  pub whole : WholeIn ts at.table (all_in at.table)
  pub laid : LaidIn ts at.table
  pub read : ReadWhole ds at.head
  pub patterns : g.patterns ≡ ahead_in ts at.table (all_in at.table)
  pub made : (x : Table) × (table_from ts at.table room ≡ given x) × (x.rows ≡ g.rows)
  pub entries : entries_of ds ≡ given g.entries

pub record Opened (s : List ℕ) (t : ℕ) (lent : Option ℕ) (at : GroupAt) : Type 0 where
  pub group : Group
  pub told : group_taken s t (room_of lent) ≡ given group
  -- the sgpd is the one that the walk takes
  pub walked : (table : TakenTable) × (sources s t ≡ given (record { table = table; sgpd = sgpd_span at }))
  pub count : at.count ≡ count_of lent group.rows group.patterns
  pub table : Inside s (table_span at)
  pub sgpd : Inside s (sgpd_span at)
  pub holds : Holds (bytes_at s (table_span at)) (bytes_at s (sgpd_span at)) (room_of lent) at group

abbrev pub GivesGroup : List ℕ → ℕ → Option ℕ → Result GroupAt Refusal → Type 0
GivesGroup s t lent (Ok at) = Opened s t lent at
GivesGroup s t lent (Err refusal) = group_taken s t (room_of lent) ≡ refused (number refusal)
