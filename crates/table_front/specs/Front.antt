-- Parts 3 and 4 of document 01: what a table's payload s begins with. Byte 0 version, 1 to 3 flags, 4 to 7 grouping type; a u32 parameter,
-- if it is present; a u32 count of rows or patterns.
use Rattle.std.specs.Prelude.{ℕ, ◌+◌, ◌/◌, ◌%◌, ◌≤◌, Bool, List, ltb, eqb, length}
use Rattle.base_fields.specs.Answer.{Answer, choose, refuse_if, within, input_limit}
use Rattle.base_fields.specs.Number.{be_at}
use Rattle.table_front.specs.declared.TableKind.{TableKind}
use Rattle.table_front.specs.declared.TableKind.TheVariants.{Sbgp, Csgp}

-- an sbgp of version 1 only has a parameter; in a csgp bit 6 of the flags says so
abbrev pub has_parameter : TableKind → List ℕ → Bool
has_parameter Sbgp s = eqb (be_at 1 s 0) 1
has_parameter Csgp s = eqb (be_at 1 s 3 / 64 % 2) 1

abbrev pub parameter_of : TableKind → List ℕ → ℕ
parameter_of kind s = choose (has_parameter kind s) (be_at 4 s 8) 0

abbrev pub count_place : TableKind → List ℕ → ℕ
count_place kind s = choose (has_parameter kind s) 12 8

-- of rows or of patterns
abbrev pub count_of : TableKind → List ℕ → ℕ
count_of kind s = be_at 4 s (count_place kind s)

-- 55, 20, 21, 22 in order, then what follows
abbrev pub fronted : {A : Type 0} → TableKind → List ℕ → Answer A → Answer A
fronted kind s rest =
    within s
    (refuse_if (ltb (length s) 8) 20
    (refuse_if (ltb (length s) (count_place kind s)) 21
    (refuse_if (ltb (length s) (count_place kind s + 4)) 22 rest)))

-- its fields are there, in an input that is not too long
pub record Present (kind : TableKind) (s : List ℕ) : Type 0 where
  pub short : length s ≤ input_limit
  pub whole : count_place kind s + 4 ≤ length s

pub record Front : Type 0 where
  pub grouping_type_of : ℕ
  pub parameter : ℕ
  pub count : ℕ
  -- the place behind the count
  pub first : ℕ

abbrev pub front_fields : TableKind → List ℕ → Front
front_fields kind s = record { grouping_type_of = be_at 4 s 4; parameter = parameter_of kind s; count = count_of kind s; first = count_place kind s + 4 }
