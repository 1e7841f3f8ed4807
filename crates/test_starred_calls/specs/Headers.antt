-- Atom headers: each answer and what it must be.
use Rattle.std.specs.Prelude.{List, [], ◌∷◌}
use Rattle.std.proofs.Math.Option.{some}
use Rattle.base_fields.specs.Answer as answer
use Rattle.base_fields.specs.Answer.{given, refused}
use Rattle.atom_tree.specs.Told.{told_header, told_payload}
use Rattle.test_starred.specs.Case.{Case, gives}
use Rattle.test_starred.specs.Headers.{free_type}
use Rattle.test_starred_calls.specs.declared.headers.HeaderAnswers.{HeaderAnswers}

abbrev pub headers_answered : HeaderAnswers → List Case
headers_answered r =
    gives (told_header r.no_bytes) answer.none ∷
    gives (told_header r.size_7) (refused 3) ∷
    gives (told_header r.size_8) (given (record { type = free_type; size = some 8; header_length = 8; body = 8 })) ∷
    gives (told_payload r.body_of_8) (given (record { place = 8; size = 0 })) ∷
    gives (told_header r.extended_15) (refused 4) ∷
    gives (told_header r.extended_16) (given (record { type = free_type; size = some 16; header_length = 16; body = 16 })) ∷
    gives (told_header r.largest)
    (given (record { type = free_type; size = some 18446744073709551615; header_length = 16; body = 16 })) ∷
    gives (told_header r.far_end) (refused 5) ∷
    []
