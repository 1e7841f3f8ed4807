-- Part 6 of document 01: the descriptions in an sgpd payload.
use Rattle.std.specs.Prelude.{ℕ, zero, suc, ◌+◌, ◌-◌, ◌/◌, List, [], ◌∷◌, ltb, leb, eqb, length, get_or}
use Rattle.base_fields.specs.Answer.{Answer, given, choose, refuse_if, none_if, and_then, within}
use Rattle.base_fields.specs.Number.{be_at}
use Rattle.base_fields.specs.Records.{room_for}
use Rattle.base_fields.specs.Span.{Span}
use Rattle.base_fields.specs.Fourcc as fourcc

abbrev pub version : List ℕ → ℕ
version s = be_at 1 s 0

abbrev pub grouping_type_of : List ℕ → ℕ
grouping_type_of s = be_at 4 s 4

-- version 1 and up has a default length, version 2 and up a default index behind it
abbrev pub default_length_of : List ℕ → ℕ
default_length_of s = choose (leb 1 (version s)) (be_at 4 s 8) 0

abbrev pub default_index : List ℕ → ℕ
default_index s = choose (leb 2 (version s)) (be_at 4 s 12) 0

-- the place of the entry count
abbrev pub entry_count_place : List ℕ → ℕ
entry_count_place s = choose (eqb (version s) 0) 8 (choose (eqb (version s) 1) 12 16)

abbrev pub entry_count_of : List ℕ → ℕ
entry_count_of s = be_at 4 s (entry_count_place s)

-- the length that version 0 gives the entries of a type; 0 where it gives none
unfoldable pub implicit_length : ℕ → ℕ
implicit_length t =
    choose (eqb t fourcc.roll) 2
    (choose (eqb t fourcc.prol) 2
    (choose (eqb t fourcc.rap) 1 (choose (eqb t fourcc.tele) 1 (choose (eqb t fourcc.sap) 1 0))))

-- the bytes still left from place p, divided by the whole count, rounded down: 34 where that is 0
abbrev pub share : List ℕ → ℕ → Answer Span
share s p =
    refuse_if (eqb ((length s - p) / entry_count_of s) 0) 34
    (given (record { place = p; size = (length s - p) / entry_count_of s }))

-- a length before the entry: 33 where it is missing
abbrev pub prefixed : List ℕ → ℕ → Answer Span
prefixed s p = refuse_if (ltb (length s) (p + 4)) 33 (given (record { place = p + 4; size = be_at 4 s p }))

-- the entry at place p, wherever it ends
abbrev pub declared_entry : List ℕ → ℕ → Answer Span
declared_entry s p =
    choose (leb 1 (version s))
    (choose (eqb (default_length_of s) 0) (prefixed s p) (given (record { place = p; size = default_length_of s })))
    (choose (eqb (implicit_length (grouping_type_of s)) 0) (share s p)
    (given (record { place = p; size = implicit_length (grouping_type_of s) })))

-- 35 where the entry is cut
unfoldable pub span_at : List ℕ → ℕ → Answer Span
span_at s p = and_then (declared_entry s p) (λ e. refuse_if (ltb (length s) (e.place + e.size)) 35 (given e))

-- n entries, the first at place p
unfoldable pub spans : ℕ → List ℕ → ℕ → Answer (List Span)
spans zero s p = given []
spans (suc n) s p = and_then (span_at s p) (λ e. and_then (spans n s (e.place + e.size)) (λ rest. given (e ∷ rest)))

-- the fixed fields: 55, 30, 31, 32 in order
abbrev pub headed : {A : Type 0} → List ℕ → Answer A → Answer A
headed s rest =
    within s
    (refuse_if (ltb (length s) 12) 30
    (refuse_if (ltb (length s) (choose (leb 2 (version s)) 16 12)) 31
    (refuse_if (ltb (length s) (entry_count_place s + 4)) 32 rest)))

-- the entries of an sgpd payload, read whole
unfoldable pub sgpd : List ℕ → Answer (List Span)
sgpd s = headed s (spans (entry_count_of s) s (entry_count_place s + 4))

-- what parse_sgpd answers; the default index is carried and not used
pub record Description : Type 0 where
  pub version : ℕ
  pub type : ℕ
  pub length : ℕ
  pub index : ℕ
  pub count : ℕ

abbrev pub description : List ℕ → Description
description s =
    record {
      version = version s;
      type = grouping_type_of s;
      length = default_length_of s;
      index = default_index s;
      count = entry_count_of s;
    }

abbrev pub parse_sgpd : List ℕ → Answer Description
parse_sgpd s = and_then (sgpd s) (λ es. given (description s))

-- entry i of a list, counted from 1; entry 0 or past the count: none
abbrev pub pick : List Span → ℕ → Answer Span
pick es i =
    none_if (eqb i 0)
    (none_if (ltb (length es) i) (given (get_or es (i - 1) (record { place = 0; size = 0 }))))

-- the whole payload is read before an entry is given
abbrev pub entry_at : List ℕ → ℕ → Answer Span
entry_at s i = and_then (sgpd s) (λ es. pick es i)

-- all entries at once, for a lent run of two numbers to an entry: the payload's own refusals, then 29
abbrev pub all_entries : List ℕ → List ℕ → Answer (List Span)
all_entries s run = and_then (sgpd s) (λ es. room_for run es)
