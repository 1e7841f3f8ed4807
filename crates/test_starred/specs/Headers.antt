-- Atom headers.
use Rattle.std.specs.Prelude.{ℕ, List, [], ◌∷◌, ◌++◌, replicate}
use Rattle.std.proofs.Math.Option.{none, some}
use Rattle.base_fields.specs.Answer as answer
use Rattle.base_fields.specs.Answer.{given, refused}
use Rattle.atom_tree.specs.Atom.{header_at, body_at}
use Rattle.test_starred.specs.Case.{Case, gives}

-- "free"
abbrev pub free : List ℕ
free = 0x66 ∷ 0x72 ∷ 0x65 ∷ 0x65 ∷ []

abbrev pub free_type : ℕ
free_type = 0x66726565

-- an atom of a 32-bit size below 256
abbrev pub sized : ℕ → List ℕ
sized n = 0 ∷ 0 ∷ 0 ∷ n ∷ free

-- an atom of an extended size
abbrev pub extended : List ℕ → List ℕ
extended size = sized 1 ++ size

abbrev pub largest : List ℕ
largest = replicate 8 255

abbrev pub headers : List Case
headers =
    -- no bytes
    gives (header_at [] 0) answer.none ∷
    -- size 7, size 8 with an empty body
    gives (header_at (sized 7) 0) (refused 3) ∷
    gives (header_at (sized 8) 0) (given (record { type = free_type; size = some 8; header_length = 8; body = 8 })) ∷
    gives (body_at (sized 8) 0 none) (given (record { place = 8; size = 0 })) ∷
    -- extended 15 and 16
    gives (header_at (extended (0 ∷ 0 ∷ 0 ∷ 0 ∷ 0 ∷ 0 ∷ 0 ∷ 15 ∷ [])) 0) (refused 4) ∷
    gives (header_at (extended (0 ∷ 0 ∷ 0 ∷ 0 ∷ 0 ∷ 0 ∷ 0 ∷ 16 ∷ [])) 0)
    (given (record { type = free_type; size = some 16; header_length = 16; body = 16 })) ∷
    -- size 2^64 - 1 at place 0 and at place 8
    gives (header_at (extended largest) 0)
    (given (record { type = free_type; size = some 18446744073709551615; header_length = 16; body = 16 })) ∷
    gives (header_at (sized 8 ++ extended largest) 8) (refused 5) ∷
    []
