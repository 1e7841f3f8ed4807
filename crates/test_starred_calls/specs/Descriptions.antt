-- Descriptions and typed entries: each answer and what it must be.
use Rattle.std.specs.Prelude.{ℕ, List, [], ◌∷◌, negsuc}
use Rattle.base_fields.specs.Answer.{Answer, given, none, refused}
use Rattle.group_sgpd.specs.Sgpd.{Description}
use Rattle.group_sgpd.specs.Told.{told_sgpd, told_entry}
use Rattle.group_entries.specs.Told.{told_roll, told_rash, told_alst}
use Rattle.test_starred.specs.Case.{Case, gives}
use Rattle.test_starred.specs.Descriptions.{span}
use Rattle.test_starred_calls.specs.declared.descriptions.SgpdAnswers.{SgpdAnswers}
use Rattle.test_starred_calls.specs.declared.descriptions.EntryAnswers.{EntryAnswers}

-- version 0, type "abcd", so many entries
abbrev pub described : ℕ → Answer Description
described n = given (record { version = 0; type = 0x61626364; length = 0; index = 0; count = n })

abbrev pub sgpd_answered : SgpdAnswers → List Case
sgpd_answered r =
    gives (told_sgpd r.three) (described 3) ∷
    gives (told_entry r.first) (given (span 12 3)) ∷
    gives (told_entry r.second) (given (span 15 2)) ∷
    gives (told_entry r.third) (given (span 17 1)) ∷
    gives (told_entry r.fourth) none ∷
    gives (told_sgpd r.two) (described 2) ∷
    gives (told_entry r.two_first) (given (span 12 1)) ∷
    gives (told_entry r.two_second) (given (span 13 1)) ∷
    gives (told_sgpd r.shared_out) (refused 34) ∷
    gives (told_entry r.shared_out_first) (refused 34) ∷
    []

abbrev pub entries_answered : EntryAnswers → List Case
entries_answered r =
    gives (told_roll r.back_2) (given (negsuc 1)) ∷
    gives (told_roll r.back_32768) (given (negsuc 32767)) ∷
    gives (told_rash r.rash_13) (given (record { points = 1; maximum = 8; minimum = 9; priority = 5 })) ∷
    gives (told_rash r.rash_12) (refused 43) ∷
    gives (told_alst r.alst_4) (given (record { roll_count_of = 0; first_output = 6; pairs = 0 })) ∷
    gives (told_alst r.alst_5) (refused 45) ∷
    []
