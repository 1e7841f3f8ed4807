-- What the result of read_front tells, and what a front that was read tells.
use Rattle.std.specs.Prelude.{◌≡◌, List, ℕ, ◌+◌, Result}
use Rattle.base_fields.specs.Answer.{Answer}
use Rattle.base_fields.specs.Refusal.{told}
use Rattle.base_fields.specs.declared.refusal.Refusal.{Refusal}
use Rattle.base_fields.specs.Number.{be_at}
use Rattle.table_front.specs.Front.{Front, parameter_of, count_place, count_of, Present}
use Rattle.table_front.specs.declared.TableKind.{TableKind}
use Rattle.table_front.specs.declared.TableFront.{TableFront}

-- document 01's front of the fields that were read
abbrev pub front_read : TableFront → Front
front_read f = record { grouping_type_of = f.grouping_type; parameter = f.grouping_type_parameter; count = f.count; first = f.first }

abbrev pub told_front : Result TableFront Refusal → Answer Front
told_front = told front_read

-- f is the front of a payload
pub record FrontOf (kind : TableKind) (s : List ℕ) (f : TableFront) : Type 0 where
  pub grouping_type_of : f.grouping_type ≡ be_at 4 s 4
  pub parameter : f.grouping_type_parameter ≡ parameter_of kind s
  pub count : f.count ≡ count_of kind s
  pub first : f.first ≡ count_place kind s + 4
  pub there : Present kind s
