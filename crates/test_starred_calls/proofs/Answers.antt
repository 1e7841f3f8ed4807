-- A call's answer, where a row of the table says what the definition gives.
use Prim.Native.Nat.{ℕ}
use Rattle.std.specs.Prelude.{Result}
use mathlib.Core.Path.{◌≡◌}
use mathlib.Core.List.{List}
use Rattle.base_fields.specs.Answer.{Answer, given, and_then}
use Rattle.base_fields.specs.Span.{Span}
use Rattle.base_fields.specs.declared.refusal.Refusal.{Refusal}
use Rattle.table_rows.specs.Row.{Table}
use Rattle.table_rows.specs.Found.{GivesTable}
use Rattle.table_rows.specs.declared.SampleToGroup.{SampleToGroup}
use Rattle.listing_spec.specs.Cue.{Cue}
use Rattle.listing_cue.specs.Told.{GivesCue}
use Rattle.listing_cue.specs.declared.CueLengths.{CueLengths}
use Rattle.group_sgpd.specs.Sgpd.{sgpd, parse_sgpd, entry_at, description, pick}

pub read_as : {told answer : Answer Table} {before after : List ℕ} {r : Result SampleToGroup Refusal}
    → GivesTable told before after r → told ≡ answer → GivesTable answer before after r
read_as g e = rw e at g

module _ (s : List ℕ) {spans : Answer (List Span)} (e : sgpd s ≡ spans) where
  pub parsed_as : parse_sgpd s ≡ and_then spans (λ es. given (description s))
  parsed_as = rw e

  pub placed_as : (i : ℕ) → entry_at s i ≡ and_then spans (λ es. pick es i)
  placed_as i = rw e

pub listed_as : {told answer : Answer Cue} {rows rows' out out' : List ℕ} {r : Result CueLengths Refusal}
    → GivesCue told rows rows' out out' r → told ≡ answer → GivesCue answer rows rows' out out' r
listed_as g e = rw e at g
